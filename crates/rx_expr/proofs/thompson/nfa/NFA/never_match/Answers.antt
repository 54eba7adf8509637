use Rattle.rx_expr.proofs.NamedPatterns.{fail_names_none}
use Rattle.rx_expr.proofs.NfaFacts.{shallow_row}
use Rattle.rx_expr.proofs.thompson.nfa.NFA.never_match.Goals as goal

pub of_row-requires-clause-shallow : goal.of_row-requires-clause-shallow
of_row-requires-clause-shallow c = shallow_row _ (λ P. tt)

pub of_row-requires-clause-patterns : goal.of_row-requires-clause-patterns
of_row-requires-clause-patterns c = fail_names_none
