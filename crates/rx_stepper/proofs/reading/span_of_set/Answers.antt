use Rattle.rx_spec.proofs.Prelude.{◌≡◌, length, map, rules, length-map}
use Rattle.rx_stepper.proofs.Prelude.{unit_number}
use Rattle.rx_stepper.proofs.ListedColumns.{set_added, set_listed, listed_still}
use Rattle.rx_stepper.proofs.reading.span_of_set.Goals as goal

pub returns-clause-columns : goal.returns-clause-columns
returns-clause-columns c = search (rules, set_added, length-map)

pub returns-clause-listed : goal.returns-clause-listed
returns-clause-listed c =
    let units = map unit_number c.args.units.now in
    let before = c.args.columns.now.items in
    let starts : c.len-start.result ≡ length before = search rules in
    let stops : c.len-stop.result ≡ length c.push_columns.new.columns.items = search rules in
    let added = c.in_ok-push_columns.ensures in
    let grown = set_added c.args.set.now units (length-map c.args.units.now unit_number) added in
    c.keep.ensures units _ (listed_still c.args.listed.now.sets.items grown c.requires.listed)
    (set_listed c.args.set.now units before added starts stops)
