use Rattle.rx_spec.proofs.Prelude.{rules, ◌≡◌, ◌≤◌, ◌<◌, ◌^◌, Bool, true, List, ℕ, length, ap, ap₂, sym, subst, arith}
use Rattle.rx_spec.proofs.Prelude.{◌∙◌, id_count, firsts}
use Rattle.rx_stepper.proofs.Prelude.{lead_of, meaning, own_of, rows_by, spelled, stepping_of}
use Rattle.rx_stepper.specs.declared.stepper.Stepper.{Stepper}
use Rattle.rx_stepper.proofs.KeyLaws.{Spells, key_len, label_number, own_closed, own_few, rows_few, spells}
use Rattle.rx_stepper.proofs.stepper.Stepper.size.Goals as goal
use Rattle.rx_stepper.proofs.stepper.Stepper.size.Goals.{After-label_of}

-- the parts of the size, of a state and of its label
record Parts (key lead : List ℕ) (rows label : ℕ) : Type 0 where
  pub rows_are : rows ≡ length (spelled lead key).rows
  pub label_is : label ≡ length (spelled lead key).label
  pub rows_few : rows ≤ id_count
  pub label_few : label < 2 ^ 32

spelt : (s : Stepper) {key : List ℕ} → (stepping_of s).is_key key ≡ true
    → Spells (meaning s.closures.nfa.now).rows (lead_of (meaning s.closures.nfa.now)) key
unfolding stepping_of
spelt s {key} is_key = search (rules, spells)

parts : (c : After-label_of) → Parts c.args.key.now (lead_of (meaning c.args.self.now.closures.nfa.now))
    c.rows_len-rows.result (length c.label_of.result.now)
parts c =
    let nfa = meaning c.args.self.now.closures.nfa.now in
    let key = c.args.key.now in
    let s = spelt c.args.self.now c.requires in
    let rows = c.rows_len-rows.ensures
    ∙ ap length (ap₂ (λ (lead own : List ℕ). rows_by lead c.is_led.result own)
    c.args.self.now.fits_lead.is.rows c.own_of.ensures)
    ∙ ap (λ (b : Bool). length (rows_by (lead_of nfa) b (own_of key))) c.is_led.ensures in
    record {
      rows_are = rows;
      label_is = ap length c.label_of.ensures;
      rows_few = omega (arith, rows_few s);
      label_few = omega (arith, ap length c.label_of.ensures);
    }

pub own_of-requires : goal.own_of-requires
own_of-requires c =
    let key = spelt c.args.self.now c.requires in
    omega (arith, key_len key, label_number key)

pub rows_len-rows-requires-clause-once : goal.rows_len-rows-requires-clause-once
rows_len-rows-requires-clause-once c =
    subst (λ (own : List ℕ). firsts own ≡ own) (sym c.own_of.ensures)
    (own_closed (spelt c.args.self.now c.requires)).once

pub rows_len-rows-requires-clause-few : goal.rows_len-rows-requires-clause-few
rows_len-rows-requires-clause-few c =
    omega (arith, ap length c.own_of.ensures, own_few (spelt c.args.self.now c.requires))

pub overflow_add-result : goal.overflow_add-result
overflow_add-result c = let p = parts c in omega arith

pub overflow_mul-result : goal.overflow_mul-result
overflow_mul-result c = let p = parts c in omega arith

pub overflow_add-result-2 : goal.overflow_add-result-2
overflow_add-result-2 c = let p = parts c in omega arith

pub returns-clause-small : goal.returns-clause-small
returns-clause-small c = let p = parts c in omega arith

pub returns-clause-value : goal.returns-clause-value
unfolding stepping_of
returns-clause-value c = let p = parts c in omega arith
