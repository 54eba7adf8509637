-- A built table serves its build.
use Rattle.rx_spec.proofs.Prelude.{get_or, ap, ◌∙◌, get_or-map-range_with_len, contains, start_of_byte, Nfa}
use Rattle.std.proofs.Common.{zero-add}
use Rattle.rx_spec.specs.declared.Start.{Start}
use Rattle.rx_dense.specs.Layouts.{Layout, table_of}
use Rattle.rx_meaning.specs.Tables.{Serves}
use Rattle.rx_build.specs.Built.{IsBuilt, build_of}
use Rattle.rx_build.specs.Settings.{Settled}

pub built_serves : (s : Settled) (nfa : Nfa) (l : Layout) → IsBuilt s nfa l → Serves (table_of l) (build_of s nfa)
built_serves s nfa l is = record {
  is_table = is.in_order.sound.is_table;
  gives = is.gives;
  settings = record {
    start_kind = ap (λ (m : Layout). m.start_kind) is.rest;
    pattern_starts = ap (λ (m : Layout). m.pattern_starts) is.rest;
    start_of_byte = λ byte low.
        ap (λ (m : Layout). get_or m.contexts byte Start.NonWordByte) is.rest
        ∙ get_or-map-range_with_len (start_of_byte nfa.line_terminator) 0 256 byte byte Start.NonWordByte low
        (zero-add byte);
    quit = λ byte low. ap (λ (m : Layout). contains m.quit byte) is.rest;
  };
}
