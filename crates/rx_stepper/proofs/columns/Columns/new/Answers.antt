use Rattle.rx_spec.proofs.Prelude.{length, ap, sym, ◌∙◌, arith, length-map}
use Rattle.rx_stepper.proofs.Prelude.{unit_number}
use Rattle.rx_stepper.proofs.UnitCounts.{units_few}
use Rattle.rx_stepper.proofs.columns.Columns.new.Goals as goal

pub new-requires : goal.new-requires
new-requires c =
    let units = c.in_ok-units.units.items in
    let counted = sym (length-map units unit_number) ∙ ap length c.in_ok-units.ensures in
    omega (arith, units_few c.args.classes.now)
