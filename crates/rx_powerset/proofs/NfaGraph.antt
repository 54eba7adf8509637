-- The rows of an NFA of the code as a graph.
use Rattle.rx_expr.specs.Nfa.{meaning}
use Rattle.rx_expr.specs.declared.thompson.nfa.NFA.{NFA}
use Rattle.rx_lemmas.proofs.GraphSearch.{Graph}
use Rattle.rx_lemmas.proofs.RowClosures.{graph_of}
use Rattle.rx_powerset.specs.Passing.{passing_of}
use Rattle.rx_powerset.specs.declared.closure.Passing.{Passing}

abbrev pub nfa_graph : NFA → Passing → Graph
nfa_graph nfa passing = graph_of (meaning nfa).rows (passing_of passing) nfa.shallow
