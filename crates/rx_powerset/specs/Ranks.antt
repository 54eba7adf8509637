-- The order of states: by their rows, then by what is known of the last unit, then by their patterns.
use Rattle.std.specs.Cmp.Lexicographic.{slice_cmp}
use Rattle.std.specs.Ordering.{ordering_then, nat_cmp, bool_cmp}
use Rattle.std.specs.declared.cmp.Ordering.{Ordering}
use Rattle.rx_spec.specs.Contexts.{Facts}
use Rattle.rx_spec.specs.States.{State}

abbrev pub facts_rank : Facts → Facts → Ordering
facts_rank x y =
    let word = bool_cmp x.word y.word in
    let cr = ordering_then (bool_cmp x.cr y.cr) word in
    let lf = ordering_then (bool_cmp x.lf y.lf) cr in
    let line_terminator = ordering_then (bool_cmp x.line_terminator y.line_terminator) lf in
    ordering_then (bool_cmp x.text y.text) line_terminator

abbrev pub rank : State → State → Ordering
rank s t =
    let context = ordering_then (facts_rank s.context t.context) (slice_cmp nat_cmp s.label t.label) in
    ordering_then (slice_cmp nat_cmp s.rows t.rows) context
