-- expressions: how a proof tells them apart, what one of the code stands for, and why one is refused
pub mod ExpressionCode
pub mod Expr
pub mod ExprFalls
pub mod ExprError
-- the construction: its settings, an NFA of the code, and what is added to the rows
pub mod Settings
pub mod NfaRows
pub mod Nfa
pub mod Compiles
pub mod Compiler
-- why a build of a table fails
pub mod Refusals
