use Rattle.rx_spec.proofs.Prelude.{arith, sym, ◌∙◌, common_steps}
use Rattle.rx_base.specs.Input.{query_of}
use Rattle.rx_search.proofs.Standing.{standing}
use Rattle.rx_search.proofs.Needles.{stays, skips}
use Rattle.rx_search.proofs.skip.skip.Goals as goal

pub returns-then-not-is_accel-clause-skips : goal.returns-then-not-is_accel-clause-skips
returns-then-not-is_accel-clause-skips g c = grind (arith, common_steps, stays)

pub returns-clause-skips : goal.returns-clause-skips
returns-clause-skips g c =
    let met = g.met.A.Automaton in
    let cursor = c.args.cursor.now in
    skips (standing cursor.row (met.sound cursor.table cursor.sound) (met.are_ids cursor.table) cursor.is_id)
    c.args.direction (query_of c.args.input.now) c.args.from c.as_slice.result.now c.next_needle.result
    (c.as_slice.ensures ∙ c.needles.ensures) (sym c.is_accel.ensures ∙ c.if-not-is_accel.false) c.next_needle.ensures
