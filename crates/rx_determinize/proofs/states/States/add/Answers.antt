-- What was met is read by its fields, as they lie in memory (`inside`).
use Rattle.rx_spec.proofs.Prelude.{common_steps, ◌≡◌, ℕ, ◌+◌, ◌*◌, ◌^◌, ◌≤◌, List, [], ◌∷◌, ◌++◌, length, sym, ap, ◌∙◌}
use Rattle.rx_spec.proofs.Prelude.{subst, refl, arith, true, false, length_push, slice_get_within, err_from_is_err_and}
use Rattle.rx_spec.proofs.Prelude.{not-false, not-true}
use Rattle.rx_determinize.proofs.Prelude.{keying, AreRows, IsWorking, Layout, Met, row_count, stepping_of, stride}
use Rattle.rx_dense.proofs.Rows.{number_few}
use Rattle.rx_determinize.proofs.AddingLaws.{is_over_full, over_new, one_more_row, working_new, keys_at, IsNew, met_of}
use Rattle.rx_determinize.proofs.AddingLaws.{met_with, keys_kept, same_met, new_key}
use Rattle.rx_determinize.proofs.states.States.add.Goals.{Then-not-interned, Else-not-interned, After-label}
use Rattle.rx_determinize.proofs.states.States.add.Goals as goal

-- ---- the key was there

keys_same : (c : Then-not-interned) → c.intern.new.self ≡ c.args.self.now.keys
keys_same c =
    keys_kept c.self.inside.keys c.intern.new.self c.args.key.now c.in_ok-interned.interned.is_new
    c.in_ok-interned.ensures.keys (not-true c.in_ok-interned.interned.is_new c.if-not-interned.true)
    ∙ ap (λ (m : Met). m.keys) c.self.view_is

pub row_id-requires : goal.row_id-requires
row_id-requires c =
    let there = slice_get_within c.intern.new.self c.in_ok-interned.interned.id c.args.key.now
    c.in_ok-interned.ensures.id in
    omega (arith, there, ap length (keys_same (goal.at.row_id-requires c).Then-not-interned), c.requires.count)

pub returns-then-not-interned-clause-ok : goal.returns-then-not-interned-clause-ok
returns-then-not-interned-clause-ok c =
    record {
      place = c.in_ok-interned.interned.id;
      interns = record {
        is_new = false;
        keys = keys_same (goal.at.returns-then-not-interned-clause-ok c).Then-not-interned;
        here = c.in_ok-interned.ensures.id;
      };
      layout = refl;
      id_is = c.row_id.ensures.value;
    }

pub returns-then-not-interned-clause-working : goal.returns-then-not-interned-clause-working
returns-then-not-interned-clause-working c =
    let at = (goal.at.returns-then-not-interned-clause-working c).Then-not-interned in
    subst (λ (m : Met). IsWorking (keying (stepping_of c.args.stepper.now) c.args.dfa.now) c.args.settled.now m
    c.args.dfa.now) (sym (same_met (keys_same at)
    (ap (λ (m : Met). m.size) c.self.view_is) (ap (λ (m : Met). m.patterns) c.self.view_is))) c.requires.can.working

-- ---- the key is new

module _ (c : Else-not-interned) where
  one_more : c.intern.new.self ≡ c.self.inside.keys ++ c.args.key.now ∷ []
  one_more =
      keys_at c.self.inside.keys c.intern.new.self c.args.key.now c.in_ok-interned.interned.is_new
      c.in_ok-interned.ensures.keys (not-false c.in_ok-interned.interned.is_new c.if-not-interned.false)

  keys_more : c.intern.new.self ≡ c.args.self.now.keys ++ c.args.key.now ∷ []
  keys_more = one_more ∙ ap (λ (m : Met). m.keys ++ c.args.key.now ∷ []) c.self.view_is

  key_new : IsNew (keying (stepping_of c.args.stepper.now) c.args.dfa.now) c.args.self.now c.args.key.now
  key_new =
      new_key c.requires.can (ap (λ (m : Met). m.keys) c.self.view_is) c.in_ok-interned.ensures.new
      c.if-not-interned.false

  -- there is one more, and a table has rows for few
  few_keys : (length c.intern.new.self ≡ length c.self.inside.keys + 1) × (length c.intern.new.self ≤ 2 ^ 32)
  few_keys =
      few c.self.inside.keys c.intern.new.self c.args.key.now c.args.dfa.now c.state_len-rows.ensures.rows
      (c.requires.count ∙ ap (λ (m : Met). length m.keys + 2) (sym c.self.view_is)) one_more
    where
      few : (before after : List (List ℕ)) (key : List ℕ) (l : Layout) → AreRows l
          → row_count l ≡ length before + 2 → after ≡ before ++ key ∷ []
          → (length after ≡ length before + 1) × (length after ≤ 2 ^ 32)
      few before after key l rows count more = grind (arith, common_steps, length_push, number_few)

-- what is met then, where the keys have one more
met_more : (c : After-label) → c.intern.new.self ≡ c.args.self.now.keys ++ c.args.key.now ∷ []
    → met_of c.intern.new.self (c.self.inside.size + c.from.result) (c.self.inside.patterns + length c.label.result.now)
    ≡ met_with (keying (stepping_of c.args.stepper.now) c.args.dfa.now) c.args.self.now c.args.key.now
met_more c more =
    same_met more (omega (arith, c.from.ensures, c.size.ensures.value, ap (λ (m : Met). m.size) c.self.view_is))
    (omega (
      arith,
      ap length c.label.ensures,
      ap length c.requires.can.label,
      ap (λ (m : Met). m.patterns) c.self.view_is,
    ))

pub returns-in_err-add_row-clause-err : goal.returns-in_err-add_row-clause-err
returns-in_err-add_row-clause-err c =
    let p = err_from_is_err_and c.from_residual-in_err-add_row.result c.from_residual-in_err-add_row.ensures.1 in
    rw (p.1, p.2)
    (is_over_full c.requires.can.working (key_new (goal.at.returns-in_err-add_row-clause-err c).Else-not-interned)
    c.state_len-rows.ensures.rows c.in_err-add_row.field-0.0.kind c.in_err-add_row.ensures.err)

pub returns-in_err-check-clause-err : goal.returns-in_err-check-clause-err
returns-in_err-check-clause-err c =
    let p = err_from_is_err_and c.from_residual-in_err-check.result c.from_residual-in_err-check.ensures.1 in
    let at = goal.at.returns-in_err-check-clause-err c in
    rw (p.1, p.2)
    (over_new c.requires.can.working (key_new at.Else-not-interned) c.state_len-rows.ensures.rows
    (met_more at.After-label (keys_more at.Else-not-interned))
    c.in_ok-add_row.ensures.ok c.in_err-check.field-0.0.kind c.in_err-check.ensures.err)

pub row_id-requires-2 : goal.row_id-requires-2
row_id-requires-2 c =
    let there = slice_get_within c.intern.new.self c.in_ok-interned.interned.id c.args.key.now
    c.in_ok-interned.ensures.id in
    let rows = one_more_row c.args.dfa.now c.state_len-rows.ensures.rows in
    rw c.in_ok-add_row.ensures.ok
    (omega (
      arith,
      there,
      rows,
      c.requires.count,
      ap length (keys_more (goal.at.row_id-requires-2 c).Else-not-interned),
      length_push c.args.self.now.keys c.args.key.now,
    ))

pub returns-clause-ok : goal.returns-clause-ok
returns-clause-ok c =
    record {
      place = c.in_ok-interned.interned.id;
      interns = record {
        is_new = true;
        keys = keys_more (goal.at.returns-clause-ok c).Else-not-interned;
        here = c.in_ok-interned.ensures.id;
      };
      layout = c.in_ok-add_row.ensures.ok;
      id_is =
          c.row_id-2.ensures.value
          ∙ ap (λ (l : Layout). (c.in_ok-interned.interned.id + 2) * stride l) c.in_ok-add_row.ensures.ok;
    }

pub returns-clause-working : goal.returns-clause-working
returns-clause-working c =
    let at = goal.at.returns-clause-working c in
    working_new c.requires.can.working (key_new at.Else-not-interned) c.state_len-rows.ensures.rows
    (met_more at.After-label (keys_more at.Else-not-interned))
    c.in_ok-add_row.ensures.ok c.in_ok-check.ensures.ok

pub check-requires : goal.check-requires
check-requires c = grind (arith, common_steps)

pub invariant_of-self-in_err-add_row : goal.invariant_of-self-in_err-add_row
invariant_of-self-in_err-add_row c =
    let few = few_keys (goal.at.invariant_of-self-in_err-add_row c).Else-not-interned in
    (few.1, omega (arith, few.0, c.self.invariant.1), omega (arith, few.0, c.self.invariant.2))

pub invariant_of-self-2 : goal.invariant_of-self-2
invariant_of-self-2 c =
    let few = few_keys (goal.at.invariant_of-self-2 c).Else-not-interned in (
      few.1,
      omega arith,
      omega arith,
    )
