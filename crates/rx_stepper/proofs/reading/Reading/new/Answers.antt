use Rattle.rx_spec.proofs.Prelude.{◌<◌, length, map, arith, sym, ap, subst, All, length-map, All-nil}
use Rattle.rx_stepper.proofs.Prelude.{AreListed, row_of, unit_number}
use Rattle.rx_stepper.proofs.ReadColumns.{reads_none, reads_more, reads_all, are_spans}
use Rattle.rx_stepper.proofs.ThinLists.{row_there}
use Rattle.rx_stepper.proofs.reading.Reading.new.Goals as goal

pub loop-row-init : goal.loop-row-init
loop-row-init c =
    let units = map unit_number c.args.units.now in
    let none = sym c.new-columns.ensures.items in
    let sets = c.in_ok-listed.listed.sets.items in
    record {
      reads = reads_none c.in_ok-spans.ensures.items;
      few = subst (All (λ column. column < length c.args.units.now)) none (All-nil
          (λ column. column < length c.args.units.now));
      listed = subst (λ columns. AreListed units columns sets) none (c.in_ok-listed.ensures units);
    }

pub loop-row-preserved : goal.loop-row-preserved
loop-row-preserved c =
    let row = c.row-item.result in
    let rows = c.rows-rows.result.now in
    let at = row_there rows c.loop-row.row-index row (omega arith) c.row-item.is c.rows-rows.ensures in
    let grown = c.in_ok-span_of_row.ensures.columns in
    let span = c.in_ok-span_of_row.ensures.span in
    record {
      reads = reads_more c.loop-row.invariant.reads grown at span c.in_ok-push.ensures.items;
      few = grown.few c.loop-row.invariant.few;
      listed = c.in_ok-span_of_row.ensures.listed;
    }

pub invariant_of-result : goal.invariant_of-result
invariant_of-result c = record { are_spans = are_spans c.loop-row.invariant.reads c.loop-row.invariant.few }

pub returns-clause-reads : goal.returns-clause-reads
returns-clause-reads c = reads_all c.loop-row.invariant.reads (omega
    (arith, ap length c.rows-rows.ensures, length-map c.rows-rows.result.now row_of))
