use Rattle.rx_spec.proofs.Prelude.{sym, arith, row_of}
use Rattle.rx_minimize.proofs.Prelude.{ids_of, table_of}
use Rattle.rx_minimize.proofs.LabelLists.{IsInterned, interned_below, match_added}
use Rattle.rx_minimize.proofs.labels.label.Goals as goal

pub overflow_add-result : goal.overflow_add-result
overflow_add-result c =
    let r = c.in_ok-intern.field-0 in
    let h : IsInterned c.args.lists.now c.intern.new.self c.patterns.result.now r.id =
    record { is_new = r.is_new; keys = c.in_ok-intern.ensures.keys; there = c.in_ok-intern.ensures.id } in
    omega (arith, interned_below h, c.requires.few)

pub returns-then-is_match_state : goal.returns-then-is_match_state
returns-then-is_match_state c =
    let r = c.in_ok-intern.field-0 in
    let h : IsInterned c.args.lists.now c.intern.new.self c.patterns.result.now r.id =
    record { is_new = r.is_new; keys = c.in_ok-intern.ensures.keys; there = c.in_ok-intern.ensures.id } in
    match_added h ((table_of c.args.dfa.now).machine.label (row_of (ids_of c.args.dfa.now) c.args.id))
    (sym c.if-is_match_state.ensures) c.patterns.ensures.value
