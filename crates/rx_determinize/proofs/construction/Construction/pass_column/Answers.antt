use Rattle.rx_spec.proofs.Prelude.{common_steps, ◌≡◌, ◌+◌, ◌<◌, ℕ, true, false, length, ap, ap₂, sym, ◌∙◌, subst, arith}
use Rattle.rx_spec.proofs.Prelude.{contains}
use Rattle.rx_determinize.proofs.Prelude.{IsAlone, stepping_of, unit_number, unit_of, with_next, work_of}
use Rattle.rx_determinize.proofs.ColumnLaws.{unit_is, units_count}
use Rattle.rx_determinize.proofs.ContinuesLaws.{continues_none}
use Rattle.rx_determinize.proofs.SteppingLaws.{passed_to, place_row, quit_led, written}
use Rattle.rx_determinize.proofs.construction.Construction.pass_column.Goals.{After-index-unit, Start}
use Rattle.rx_determinize.proofs.construction.Construction.pass_column.Goals as goal

-- there is a unit for the column
low : (c : Start) → c.args.at.column < length c.args.self.now.units.items
low c =
    let serves = c.requires.stepping.entering.serves in
    let count = units_count c.args.dfa.now c.args.self.now.units.items serves.rows.classes serves.units in
    omega arith

unit_at : (c : After-index-unit)
    → unit_number c.index-unit.result.now ≡ unit_of c.args.dfa.now.classes c.args.at.column
unit_at c =
    unit_is c.args.self.now.units.items c.args.dfa.now.classes c.requires.stepping.entering.serves.units
    (low (goal.at.After-index-unit c).Start) c.index-unit.ensures

pub index-unit-requires : goal.index-unit-requires
index-unit-requires c = omega (arith, low (goal.at.index-unit-requires c).Start)

pub row_id-requires : goal.row_id-requires
row_id-requires c = place_row c.requires.stepping

pub returns-then-is_quit-clause-stepping : goal.returns-then-is_quit-clause-stepping
returns-then-is_quit-clause-stepping c =
    let r = c.requires in
    let l = c.args.dfa.now in
    let unit = unit_at (goal.at.returns-then-is_quit-clause-stepping c).After-index-unit in
    let quits : contains l.quit (unit_of l.classes c.args.at.column) ≡ true =
    ap (λ u. contains l.quit u) (sym unit) ∙ sym c.is_quit.ensures ∙ c.if-is_quit.true in
    let is = c.set_transition.ensures
    ∙ ap₂ (λ (from u : ℕ). with_next l from u c.row_id-quit.result) c.row_id.ensures.value unit in
    written r.stepping
    (quit_led r.stepping r.column quits c.row_id-quit.ensures.value c.row_id-quit.ensures.is_row is) c.args.last
    r.stepping.stepped_last

pub returns-then-is_quit-clause-later : goal.returns-then-is_quit-clause-later
returns-then-is_quit-clause-later c = grind (arith, common_steps)

pub returns-then-not-has_own-clause-stepping : goal.returns-then-not-has_own-clause-stepping
returns-then-not-has_own-clause-stepping c =
    let r = c.requires in
    let l = c.args.dfa.now in
    let s = stepping_of c.args.self.now.stepper in
    let unit = unit_at (goal.at.returns-then-not-has_own-clause-stepping c).After-index-unit in
    let stays : contains l.quit (unit_of l.classes c.args.at.column) ≡ false =
    ap (λ u. contains l.quit u) (sym unit) ∙ sym c.is_quit.ensures ∙ c.if-is_quit.false in
    let alone = c.has_own.ensures c.if-not-has_own.true in
    passed_to r.stepping (c.args.at.column + 1) (λ column from below.
    let here : column ≡ c.args.at.column = omega arith in (
      c.if-at.true,
      subst (λ n. contains l.quit (unit_of l.classes n) ≡ false) (sym here) stays,
      subst (IsAlone s) (sym here) alone,
    ))

pub returns-then-not-has_own-clause-later : goal.returns-then-not-has_own-clause-later
returns-then-not-has_own-clause-later c = continues_none (work_of c.args.self.now) c.args.dfa.now

pub write_column-requires-clause-goes_on : goal.write_column-requires-clause-goes_on
write_column-requires-clause-goes_on c =
    let unit = unit_at (goal.at.write_column-requires-clause-goes_on c).After-index-unit in
    ap (λ u. contains c.args.dfa.now.quit u) (sym unit) ∙ sym c.is_quit.ensures ∙ c.if-is_quit.false
