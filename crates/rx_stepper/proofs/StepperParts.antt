-- The parts of a stepper: leads before any was found, when one is found, and the dead state.
use Rattle.rx_spec.proofs.Prelude.{common_steps, ◌≡◌, ℕ, zero, suc, ◌^◌, ◌<◌, ◌≤◌, ◌⊎◌, inl, inr, Bool, true, false}
use Rattle.rx_spec.proofs.Prelude.{if◌then◌else◌, List, [], ◌∷◌, ◌++◌, length, map, set, Option, None, Some, refl, ap}
use Rattle.rx_spec.proofs.Prelude.{sym, ◌∙◌, subst, arith, length-append, append-nil, length-set, ⊎_elim, Bor, All}
use Rattle.rx_spec.proofs.Prelude.{slice_get, slice_index, unwrap_or, option_copied, option_map_or, id_count, Facts}
use Rattle.rx_spec.proofs.Prelude.{Row, pattern_of, row_at}
use Rattle.rx_stepper.proofs.Prelude.{AreEmpty, AreStepsOf, Current, FitsCurrent, FitsLead, Follows, IsLeadIn, IsLeadOf}
use Rattle.rx_stepper.proofs.Prelude.{IsStep, LeadIn, LeadSteps, Stand, ColumnSteps, Table, bits_of, by_test}
use Rattle.rx_stepper.proofs.Prelude.{facts_with, goes_on, going, lead_of, led_of, matches_in, own_of, pattern_few}
use Rattle.rx_stepper.proofs.Prelude.{patterns_of, rows_by, rows_in, spelled, targets_in, units_of, without}
use Rattle.rx_stepper.proofs.Members.{was}
use Rattle.rx_stepper.proofs.StepLaws.{Leads, dead_steps, going_alone, leads_alone, leads_led}
use Rattle.rx_stepper.proofs.Without.{without_nil, without_new, without_old}
use Rattle.rx_lemmas.proofs.ReadUnits.{All-got}

pub no_leads : (t : Table) (lead_in : LeadIn) (leads : List LeadSteps) → IsLeadIn t.nfa lead_in → length leads ≡ 32
    → All (λ l. length l.steps.targets.items ≡ length (units_of t.classes)) leads
    → All (λ l. l.are_found ≡ false) leads → FitsLead t lead_in leads
no_leads t lead_in leads is len columns none = record {
  is = is;
  len = len;
  columns = λ context l e. All-got (λ s. length s.steps.targets.items ≡ length (units_of t.classes)) leads context l
      columns e;
  steps = λ context l e found.
      let unfound = All-got (λ s. s.are_found ≡ false) leads context l none e in
      absurd (cc);
}

pub dead_current : (t : Table) (leads : List LeadSteps) (current : Current)
    → length current.steps.targets.items ≡ length (units_of t.classes) → current.key.items ≡ []
    → AreEmpty (map (λ v. v.items) current.steps.targets.items)
    → AreEmpty (map (λ v. v.items) current.steps.matches.items) → current.led_in ≡ None → FitsCurrent t leads current
dead_current t leads current columns key targets matches led_in =
    let stand : Stand = record {
      nfa = t.nfa;
      kind = t.kind;
      state = rows_in (own_of current.key.items) (facts_with (slice_index current.key.items 0));
    } in
    record {
      columns = columns;
      steps =
          dead_steps stand (units_of t.classes) t.columns.groups.of.items
          (map (λ v. v.items) current.steps.targets.items)
          (map (λ v. v.items) current.steps.matches.items) (ap own_of key) targets matches;
      led_in =
          led_in
          ∙ sym (ap (λ (k : List ℕ). if led_of k then Some (bits_of (facts_with (slice_index k 0))) else None) key);
      found = λ context l e there. absurd (let clash = sym led_in ∙ e in cc);
    }

-- ---- one lead is another

set_at : {X : Type 0} (xs : List X) (i : ℕ) (v : X) (k : ℕ) {x : X} → slice_get (set xs i v) k ≡ Some x
    → ((k ≡ i) × (v ≡ x)) ⊎ (slice_get xs k ≡ Some x)
set_at [] i v k e = absurd (cc)
set_at (y ∷ ys) zero v zero e = inl (refl, cc)
set_at (y ∷ ys) zero v (suc k) e = inr e
set_at (y ∷ ys) (suc i) v zero e = inr e
set_at (y ∷ ys) (suc i) v (suc k) e = ⊎_elim (λ s. inl (ap suc s.0, s.1)) (λ o. inr o) (set_at ys i v k e)

-- what becomes of it
pub record Finds (t : Table) (lead_in : LeadIn) (i : ℕ) (old new : LeadSteps) : Type 0 where
  pub columns : length new.steps.targets.items ≡ length old.steps.targets.items
  pub stays : old.are_found ≡ true → new.are_found ≡ true
  pub steps : (old.are_found ≡ true → AreStepsOf t lead_in.rows.items i old.steps) → new.are_found ≡ true
      → AreStepsOf t lead_in.rows.items i new.steps

module _ {t : Table} {lead_in : LeadIn} {leads : List LeadSteps} {i : ℕ} {old new : LeadSteps}
    (finds : Finds t lead_in i old new) (there : slice_get leads i ≡ Some old) where
  pub leads_set : FitsLead t lead_in leads → FitsLead t lead_in (set leads i new)
  leads_set f = record {
    is = f.is;
    len = length-set leads i new ∙ f.len;
    columns = λ context l e.
        ⊎_elim
        (λ (s : (context ≡ i) × (new ≡ l)).
        ap (λ v. length v.steps.targets.items) (sym s.1) ∙ finds.columns ∙ f.columns i old there)
        (λ (o : slice_get leads context ≡ Some l). f.columns context l o)
        (set_at leads i new context e);
    steps = λ context l e found.
        ⊎_elim
        (λ (s : (context ≡ i) × (new ≡ l)).
        subst (λ k. AreStepsOf t lead_in.rows.items k l.steps) (sym s.0)
        (subst (λ v. AreStepsOf t lead_in.rows.items i v.steps) s.1
        (finds.steps (λ h. f.steps i old there h) (ap (λ v. v.are_found) s.1 ∙ found))))
        (λ (o : slice_get leads context ≡ Some l). f.steps context l o found)
        (set_at leads i new context e);
  }

  pub current_set : {current : Current} → FitsCurrent t leads current → FitsCurrent t (set leads i new) current
  current_set f = record {
    columns = f.columns;
    steps = f.steps;
    led_in = f.led_in;
    found = λ context l e at.
        ⊎_elim
        (λ (s : (context ≡ i) × (new ≡ l)).
        ap (λ v. v.are_found) (sym s.1)
        ∙ finds.stays (f.found context old e (ap (slice_get leads) s.0 ∙ there)))
        (λ (o : slice_get leads context ≡ Some l). f.found context l e o)
        (set_at leads i new context at);
  }

set_there : {X : Type 0} (xs : List X) (i : ℕ) (v : X) → i < length xs → slice_get (set xs i v) i ≡ Some v
set_there [] i v h = absurd (omega arith)
set_there (y ∷ ys) zero v h = refl
set_there (y ∷ ys) (suc i) v h = set_there ys i v (omega arith)

-- the one that was found is there
pub found_there : (leads : List LeadSteps) (i : ℕ) (new : LeadSteps) {k : ℕ} → i < length leads → new.are_found ≡ true
    → k ≡ i → (l : LeadSteps) → slice_get (set leads i new) k ≡ Some l → l.are_found ≡ true
found_there leads i new h found same l e = grind (arith, common_steps, set_there)

-- ---- the state of a key that is begun

pub begun_current : (t : Table) (leads : List LeadSteps) (current : Current) {key : List ℕ}
    → length current.steps.targets.items ≡ length (units_of t.classes) → current.key.items ≡ key
    → AreStepsOf t (own_of key) (slice_index key 0) current.steps
    → current.led_in ≡ (if led_of key then Some (bits_of (facts_with (slice_index key 0))) else None)
    → (led_of key ≡ true → (l : LeadSteps) → slice_get leads (bits_of (facts_with (slice_index key 0))) ≡ Some l
    → l.are_found ≡ true)
    → FitsCurrent t leads current
begun_current t leads current {key} columns same steps led_in found = record {
  columns = columns;
  steps = subst (λ k. AreStepsOf t (own_of k) (slice_index k 0) current.steps) (sym same) steps;
  led_in =
      subst (λ (k : List ℕ). current.led_in ≡ (if led_of k then Some
      (bits_of (facts_with (slice_index k 0))) else None))
      (sym same) led_in;
  found = λ context l e there.
      by_test (led_of key)
      (λ h. let is : bits_of (facts_with (slice_index key 0)) ≡ context =
      ap (λ o. unwrap_or o 0) (sym (led_in ∙ ap
      (λ b. if b then Some (bits_of (facts_with (slice_index key 0))) else None) h) ∙ e) in
      found h l (ap (slice_get leads) is ∙ there))
      (λ h. absurd (let clash = sym (led_in ∙ ap
      (λ b. if b then Some (bits_of (facts_with (slice_index key 0))) else None) h) ∙ e in cc));
}

-- ---- what a column needs of both lists

abbrev facts_of_bits : Bool → Bool → Bool → Bool → Bool → Facts
facts_of_bits a b c d e = record { text = a; line_terminator = b; lf = c; cr = d; word = e }

facts_by : (a b c d e : Bool) → facts_with (bits_of (facts_of_bits a b c d e)) ≡ facts_of_bits a b c d e
facts_by true true true true true = refl
facts_by true true true true false = refl
facts_by true true true false true = refl
facts_by true true true false false = refl
facts_by true true false true true = refl
facts_by true true false true false = refl
facts_by true true false false true = refl
facts_by true true false false false = refl
facts_by true false true true true = refl
facts_by true false true true false = refl
facts_by true false true false true = refl
facts_by true false true false false = refl
facts_by true false false true true = refl
facts_by true false false true false = refl
facts_by true false false false true = refl
facts_by true false false false false = refl
facts_by false true true true true = refl
facts_by false true true true false = refl
facts_by false true true false true = refl
facts_by false true true false false = refl
facts_by false true false true true = refl
facts_by false true false true false = refl
facts_by false true false false true = refl
facts_by false true false false false = refl
facts_by false false true true true = refl
facts_by false false true true false = refl
facts_by false false true false true = refl
facts_by false false true false false = refl
facts_by false false false true true = refl
facts_by false false false true false = refl
facts_by false false false false true = refl
facts_by false false false false false = refl

facts_back : (f : Facts) → facts_with (bits_of f) ≡ f
facts_back f = facts_by f.text f.line_terminator f.lf f.cr f.word

few_patterns : (rows : List Row) (qs : List ℕ) → length (patterns_of rows qs) ≤ length qs
few_patterns rows [] = omega arith
few_patterns rows (q ∷ qs) =
    omega (
      arith,
      length-append (pattern_of (row_at rows q)) (patterns_of rows qs),
      pattern_few (row_at rows q),
      few_patterns rows qs,
    )

few_without : (seen xs : List ℕ) → length (without seen xs) ≤ length xs
few_without seen [] = omega (arith, ap length (without_nil seen))
few_without seen (x ∷ xs) =
    by_test (was seen x)
    (λ e. omega (arith, ap length (without_old seen xs x e), few_without seen xs))
    (λ e. omega (arith, ap length (without_new seen xs x e), few_without seen xs))

-- what leads a state on by a column, and its label
pub record Gathers (s : Stand) (unit : ℕ) (from label : List ℕ) : Type 0 where
  pub leads : Leads s unit from label
  pub few : length label < 2 ^ 32

module _ (t : Table) {lead_in : LeadIn} {leads : List LeadSteps} {current : Current}
    (fits_lead : FitsLead t lead_in leads)
    (fits : FitsCurrent t leads current) (column : ℕ) (h : column < length (units_of t.classes)) where
  abbrev key : List ℕ
  key = current.key.items

  abbrev s : Stand
  s = record { nfa = t.nfa; kind = t.kind; state = spelled (lead_of t.nfa) key }

  abbrev unit : ℕ
  unit = slice_index (units_of t.classes) column

  abbrev group : ℕ
  group = slice_index t.columns.groups.of.items column

  abbrev mine : List ℕ
  mine = matches_in current.steps group

  lead_rows : (b : Bool) → led_of key ≡ b → s.state.rows ≡ rows_by (lead_of t.nfa) b (own_of key)
  lead_rows b e = ap (λ v. rows_by (lead_of t.nfa) v (own_of key)) e

  few_mine : length mine ≤ id_count
  few_mine = (fits.steps column h).few

  by_own : going s unit ≡ going (record { nfa = t.nfa; kind = t.kind; state = rows_in (own_of key) s.state.context })
      unit
      → Gathers s unit (targets_in current.steps column) (patterns_of t.nfa.rows mine)
  by_own same = record {
    leads = leads_alone s unit (fits.steps column h) same;
    few = omega (arith, few_patterns t.nfa.rows mine, few_mine);
  }

  alone : led_of key ≡ false → Gathers s unit (targets_in current.steps column) (patterns_of t.nfa.rows mine)
  alone e = grind (arith, common_steps, by_own)

  led_is : (b : Bool) → led_of key ≡ b
      → current.led_in ≡ (if b then Some (bits_of (facts_with (slice_index key 0))) else None)
  led_is b e = fits.led_in ∙ ap (λ v. if v then Some (bits_of (facts_with (slice_index key 0))) else None) e

  pub behind : (b : ColumnSteps) → Follows current leads t.kind group b
      → Gathers s unit (targets_in current.steps column ++ targets_in b column)
      (patterns_of t.nfa.rows (mine ++ without mine (matches_in b group)))
  behind b f =
      by_test (led_of key)
      (λ e. let bits : bits_of (facts_with (slice_index key 0)) ≡ f.context =
      ap (λ o. unwrap_or o 0) (sym (led_is true e) ∙ f.led_in) in
      let facts = ap facts_with (sym bits) ∙ facts_back (facts_with (slice_index key 0)) in
      let found = fits_lead.steps f.context f.lead f.there (fits.found f.context f.lead f.led_in f.there) column h in
      let Is = λ (rows : List ℕ) (known : Facts) (v : ColumnSteps). IsStep
      (record { nfa = t.nfa; kind = t.kind; state = rows_in rows known }) unit (targets_in v column)
      (matches_in v group) in
      let theirs =
      subst (λ v. Is (lead_of t.nfa) s.state.context v) (sym f.steps_are)
      (subst (λ k. Is (lead_of t.nfa) k f.lead.steps) facts
      (subst (λ r. Is r (facts_with f.context) f.lead.steps) fits_lead.is.rows found)) in
      record {
        leads = leads_led s unit (own_of key) (lead_of t.nfa) (lead_rows true e) (fits.steps column h) theirs f.goes_on;
        few = omega (
          arith,
          few_patterns t.nfa.rows (mine ++ without mine (matches_in b group)),
          length-append mine (without mine (matches_in b group)),
          few_without mine (matches_in b group),
          few_mine,
        );
      })
      (λ e. absurd (let clash = sym (led_is false e) ∙ f.led_in in cc))

  not_behind : (current.led_in ≡ None) ⊎ (goes_on t.kind mine ≡ false)
      → Gathers s unit (targets_in current.steps column) (patterns_of t.nfa.rows mine)
  not_behind i =
      by_test (led_of key)
      (λ e. ⊎_elim
      (λ (none : current.led_in ≡ None). absurd (let clash = sym (led_is true e) ∙ none in cc))
      (λ (stops : goes_on t.kind mine ≡ false).
      by_own (going_alone s unit (own_of key) (lead_of t.nfa) (lead_rows true e)
      (ap (goes_on t.kind) (sym (fits.steps column h).matches_are) ∙ stops)))
      i)
      (λ e. alone e)

  pub gathers : (o : Option (Bor ColumnSteps)) → IsLeadOf current leads t.kind group (option_copied o)
      → Gathers s unit (targets_in current.steps column ++ option_map_or (λ b. targets_in b.now column) o [])
      (patterns_of t.nfa.rows (mine ++ option_map_or (λ b. without mine (matches_in b.now group)) o []))
  gathers None i =
      subst (λ l. Gathers s unit l (patterns_of t.nfa.rows (mine ++ [])))
      (sym (append-nil (targets_in current.steps column)))
      (subst (λ l. Gathers s unit (targets_in current.steps column) (patterns_of t.nfa.rows l)) (sym (append-nil mine))
      (not_behind i))
  gathers (Some b) f = behind b.now f
