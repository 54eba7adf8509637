-- The NFA of the definitions that an NFA of the code means.
use Rattle.std.specs.Prelude.{map}
use Rattle.rx_spec.specs.Nfas.{Nfa}
use Rattle.rx_expr.specs.declared.thompson.nfa.NFA.{NFA}
pub use Rattle.rx_expr.specs.NfaRows.{row_of, asserts, has_look}

abbrev pub meaning : NFA → Nfa
meaning nfa = record {
  rows = map row_of nfa.rows.items;
  start_anchored = nfa.start_anchored;
  start_unanchored = nfa.start_unanchored;
  start_patterns = nfa.start_patterns.items;
  direction = nfa.direction;
  line_terminator = nfa.look_matcher;
  has_empty = nfa.has_empty;
  is_utf8 = nfa.utf8;
}
