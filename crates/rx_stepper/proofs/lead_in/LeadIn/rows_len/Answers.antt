use Rattle.rx_spec.proofs.Prelude.{ℕ, length, slice_index, ap, sym, ◌∙◌, arith, get_or_default}
use Rattle.rx_stepper.proofs.Prelude.{bit, rows_by}
use Rattle.rx_stepper.proofs.KeyLaws.{once_apart}
use Rattle.rx_stepper.proofs.LeadSplits.{shared_all, shared_left, shared_more}
use Rattle.rx_stepper.proofs.lead_in.LeadIn.rows_len.Goals as goal
use Rattle.rx_stepper.proofs.lead_in.LeadIn.rows_len.Goals.{then-has, else-has}

pub overflow_sub-others : goal.overflow_sub-others
overflow_sub-others c =
    let self = c.args.self.now in
    let own = c.args.own.now in
    let row : ℕ = slice_index own c.loop-row.row-index in
    let is = get_or_default own c.loop-row.row-index 0 row c.loop-row-test.true in
    shared_left self.rows.items own c.loop-row.row-index (once_apart own c.requires.once)
    (once_apart self.rows.items self.once) c.loop-row-test.true is (sym c.has.ensures ∙ c.if-has.true)
    c.loop-row.invariant

pub loop-row-preserved : goal.loop-row-preserved
loop-row-preserved c =
    let self = c.args.self.now in
    let lead = self.rows.items in
    let own = c.args.own.now in
    let row : ℕ = slice_index own c.loop-row.row-index in
    let is = get_or_default own c.loop-row.row-index 0 row c.loop-row-test.true in
    let more = shared_more lead own c.loop-row.row-index c.loop-row-test.true is in
    elim c.if-has.branch [
      | then-has w ↦
          let one = sym c.has.ensures ∙ w.if-has.true in
          let left =
          shared_left lead own c.loop-row.row-index (once_apart own c.requires.once) (once_apart lead self.once)
          c.loop-row-test.true is one c.loop-row.invariant in
          omega (arith, ap bit one)
      | else-has w ↦ omega (arith, ap bit (sym c.has.ensures ∙ w.if-has.false))
    ]

pub returns : goal.returns
returns c =
    let self = c.args.self.now in
    let lead = self.rows.items in
    let own = c.args.own.now in
    shared_all lead own c.loop-row.row-index c.loop-row.others (once_apart own c.requires.once)
    (once_apart lead self.once) (omega arith) c.loop-row.invariant
    ∙ ap (λ b. length (rows_by lead b own)) (sym c.if-not-is_led.false)
