-- expressions: literals, and what is kept of a mirror
pub mod Literals
pub mod MirroredForms
-- whether an expression must begin with the edge
pub mod Edges
-- lists that are gone through by an index
pub mod Lists
-- what is added to the rows: one expression's, all patterns', those of their joined start
pub mod ExpressionRows
pub mod PatternRows
pub mod JoinedStarts
-- the NFA that they make
pub mod BuiltNfas
-- what it remembers of its rows
pub mod NfaFacts
-- which bytes its rows tell apart
pub mod RowClasses
-- which patterns its Match rows name
pub mod NamedPatterns
-- whether they look for Unicode words
pub mod UnicodeWords
