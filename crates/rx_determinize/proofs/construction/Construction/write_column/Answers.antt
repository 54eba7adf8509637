use Rattle.rx_spec.proofs.Prelude.{common_steps, ◌≡◌, ◌<◌, ℕ, length, ap₂, ◌∙◌, arith}
use Rattle.rx_determinize.proofs.Prelude.{IsId-row_id, unit_number, unit_of, with_next}
use Rattle.rx_determinize.proofs.ContinuesLaws.{continues_twice}
use Rattle.rx_determinize.proofs.ColumnLaws.{unit_is, units_count}
use Rattle.rx_determinize.proofs.SteppingLaws.{found_row, found_with, stepped_on}
use Rattle.rx_determinize.proofs.construction.Construction.write_column.Goals.{Start}
use Rattle.rx_determinize.proofs.construction.Construction.write_column.Goals as goal

-- there is a unit for the column
low : (c : Start) → c.args.at.column < length c.args.self.now.units.items
low c =
    let serves = c.requires.stepping.entering.serves in
    let count = units_count c.args.dfa.now c.args.self.now.units.items serves.rows.classes serves.units in
    omega arith

pub index-unit-requires : goal.index-unit-requires
index-unit-requires c = omega (arith, low (goal.at.index-unit-requires c).Start)

pub row_id-requires : goal.row_id-requires
row_id-requires c = found_row c.requires.stepping (found_with c.requires.stepping c.in_ok-id.ensures.found)

pub set_transition-requires-clause-to : goal.set_transition-requires-clause-to
set_transition-requires-clause-to c = IsId-row_id c.find_row.new.dfa c.in_ok-id.id c.in_ok-id.ensures.found.is_id

pub returns-clause-stepping : goal.returns-clause-stepping
returns-clause-stepping c =
    let r = c.requires in
    let l = c.args.dfa.now in
    let m = c.find_row.new.dfa in
    let unit : unit_number c.index-unit.result.now ≡ unit_of l.classes c.args.at.column =
    unit_is c.args.self.now.units.items l.classes r.stepping.entering.serves.units
    (low (goal.at.returns-clause-stepping c).Start) c.index-unit.ensures in
    stepped_on r.stepping c.in_ok-id.ensures.found c.set_transition.new.self r.column r.goes_on
    (c.set_transition.ensures ∙ ap₂ (λ (from u : ℕ). with_next m from u c.in_ok-id.id) c.row_id.ensures.value unit)

pub returns-clause-later : goal.returns-clause-later
returns-clause-later c = grind (arith, common_steps, continues_twice)
