use Rattle.rx_spec.proofs.Prelude.{◌≡◌, length, ap, sym, ◌∙◌, subst, arith, rules, length-map}
use Rattle.rx_stepper.proofs.Prelude.{IsThin, meaning, row_of, row_of_thin}
use Rattle.rx_stepper.proofs.ThinLists.{row_there, thin_push, thin_all}
use Rattle.rx_stepper.proofs.thin_row.thin_rows.Goals as goal

pub loop-row-preserved : goal.loop-row-preserved
loop-row-preserved c =
    let i = c.loop-row.row-index in
    let row = row_there c.rows-rows.result.now i c.row-item.result (omega arith) c.row-item.is c.rows-rows.ensures in
    record {
      len = search rules;
      each =
          thin_push c.loop-row.thin.items (meaning c.args.nfa.now).rows c.new.result c.loop-row.invariant.len
          c.in_ok-push.ensures.items (subst (IsThin (row_of_thin c.new.result))
          (sym row) c.new.ensures) c.loop-row.invariant.each;
    }

pub returns-clause-rows : goal.returns-clause-rows
returns-clause-rows c =
    let rows = (meaning c.args.nfa.now).rows in
    let rows_len = sym (length-map c.rows-rows.result.now row_of) ∙ ap length c.rows-rows.ensures in
    let all : c.loop-row.row-index ≡ length rows = omega arith in
    thin_all c.loop-row.thin.items rows (c.loop-row.invariant.len ∙ all)
    (λ q h. c.loop-row.invariant.each q (omega arith))
