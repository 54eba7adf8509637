use Rattle.rx_spec.proofs.Prelude.{common_steps, ◌≡◌, ℕ, false, ap, ◌∙◌, arith, inl, err_from_is_err_and, contains}
use Rattle.rx_determinize.proofs.Prelude.{alphabet_len, contains-empty, unit_of, work_of}
use Rattle.rx_determinize.proofs.ColumnLaws.{units_count}
use Rattle.rx_determinize.proofs.ContinuesLaws.{continues_none, continues_twice, refused_later, same_classes, same_quit}
use Rattle.rx_determinize.proofs.FillingLaws.{filled}
use Rattle.rx_determinize.proofs.SteppingLaws.{passed_to}
use Rattle.rx_determinize.proofs.construction.Construction.fill.Goals.{After-len}
use Rattle.rx_determinize.proofs.construction.Construction.fill.Goals as goal

-- no byte quits where columns are skipped
no_quit : (quit unit : ℕ) → quit ≡ 0 → contains quit unit ≡ false
no_quit quit unit none = ap (λ q. contains q unit) none ∙ contains-empty unit

pub columns-init : goal.columns-init
columns-init c =
    let l = c.args.dfa.now in
    let next = c.next_unready-column in
    let stepping = c.requires.stepping in
    record {
      stepping = passed_to stepping next.result (λ column from below.
          let ready = next.ensures.ready column from below in
          let can = c.can_skip-skips.ensures ready.0 in
          (can.0, no_quit l.quit (unit_of l.classes column) can.1, ready.1));
      within = omega (arith, ap alphabet_len stepping.entering.serves.classes);
      later = continues_none (work_of c.args.self.now) l;
    }

-- there are as many units as columns
all_units : (c : After-len) → c.len.result ≡ alphabet_len c.columns.dfa.classes
all_units c = grind (arith, common_steps, units_count)

pub pass_column-requires-clause-column : goal.pass_column-requires-clause-column
pass_column-requires-clause-column c = grind (arith, common_steps, all_units)

pub returns-in_err-last-clause-err : goal.returns-in_err-last-clause-err
returns-in_err-last-clause-err c =
    let p = err_from_is_err_and c.from_residual.result c.from_residual.ensures.1 in
    rw (p.1, p.2) (refused_later c.columns.invariant.later c.in_err-last.field-0.0.kind c.in_err-last.ensures.err)

pub next_unready-column-requires-in-columns : goal.next_unready-column-requires-in-columns
next_unready-column-requires-in-columns c = grind (arith, common_steps, all_units)

pub columns-preserved : goal.columns-preserved
columns-preserved c =
    let e = c.in_ok-last.ensures in
    let m = c.pass_column.new.dfa in
    let next = c.next_unready-column-in-columns in
    let later = continues_twice c.columns.invariant.later e.later in
    record {
      stepping = passed_to e.stepping next.result (λ column from below.
          let ready = next.ensures.ready column from below in
          let can = c.can_skip-skips.ensures ready.0 in
          (can.0, no_quit m.quit (unit_of m.classes column) (same_quit later ∙ can.1), ready.1));
      within = omega (arith, ap alphabet_len e.stepping.entering.serves.classes, ap alphabet_len (same_classes later));
      later = later;
    }

pub columns-smaller : goal.columns-smaller
columns-smaller c = grind (arith, common_steps)

pub returns-clause-entering : goal.returns-clause-entering
returns-clause-entering c =
    let i = c.columns.invariant in
    let all = all_units (goal.at.returns-clause-entering c).After-len in
    filled i.stepping.entering (λ column low. inl (omega arith)) i.stepping.filling

pub returns-clause-current : goal.returns-clause-current
returns-clause-current c = grind (arith, common_steps)
