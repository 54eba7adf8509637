-- The key of a state that is made, as it is written.
use Rattle.std.proofs.lemmas.Bool.{cases_Bool}
use Rattle.rx_spec.proofs.Prelude.{common_steps, ◌≡◌, ℕ, ◌^◌, ◌<◌, ◌≤◌, ◌==◌, ◌&&◌, Bool, true, false, not}
use Rattle.rx_spec.proofs.Prelude.{if◌then◌else◌, List, [], ◌∷◌, ◌++◌, length, refl, ap, sym, ◌∙◌, subst, arith}
use Rattle.rx_spec.proofs.Prelude.{recursion_from_All, All, list_any, is_dead_state, id_count, max_id, Facts, Nfa}
use Rattle.rx_spec.proofs.Prelude.{Standing, row_at, is_look_row}
use Rattle.rx_stepper.proofs.Prelude.{IsMadeKey, bit, bits_of, by_test, closed_rows, every-append, every-weaker}
use Rattle.rx_stepper.proofs.Prelude.{facts_with, lead_of, led, made, rows_by, without, written, written_as}
use Rattle.std.specs.List.{AllByRecursion as Every}
use Rattle.rx_stepper.proofs.Decisions.{closed_stands, firsts_twice}
use Rattle.rx_stepper.proofs.KeyLaws.{AreClosed, IsWritten, WritesState, kept_written, key_written, spelled_is}
use Rattle.rx_stepper.proofs.Members.{in_nil, was}
use Rattle.rx_stepper.proofs.Without.{without_nil, without_none, without_old, without_new}
use Rattle.rx_stepper.proofs.WrittenRows.{written_spells}

every_without : (P : ℕ → Type 0) (seen xs : List ℕ) → Every P xs → Every P (without seen xs)
every_without P seen [] h = subst (Every P) (sym (without_nil seen)) tt
every_without P seen (x ∷ xs) h =
    by_test (was seen x)
    (λ e. subst (Every P) (sym (without_old seen xs x e)) (every_without P seen xs h.1))
    (λ e. subst (Every P) (sym (without_new seen xs x e)) (h.0, every_without P seen xs h.1))

every_by : (P : ℕ → Type 0) (lead own : List ℕ) (is_led : Bool) → Every P own → Every P lead
    → Every P (rows_by lead is_led own)
every_by P lead own is_led h k = grind (arith, common_steps, cases_Bool, every-append, every_without)

led_some : (lead own : List ℕ) → 0 < length lead → 0 < length (led own lead)
led_some lead own h = grind (arith, common_steps, without_none, in_nil)

-- how the rows of a state that is made are written
pub record WritesRows (nfa : Nfa) (from own : List ℕ) (is_led : Bool) : Type 0 where
  pub written : written (lead_of nfa) (closed_rows nfa.rows Standing from) ≡ written_as is_led own
  pub ids : Every (λ q. q < id_count) own
  pub lead_ids : Every (λ q. q < id_count) (lead_of nfa)

module _ {nfa : Nfa} {from own : List ℕ} {is_led : Bool} (w : WritesRows nfa from own is_led) where
  abbrev closed : List ℕ
  closed = closed_rows nfa.rows Standing from

  pub rows_are : rows_by (lead_of nfa) is_led own ≡ closed
  rows_are = sym (ap (λ v. rows_by (lead_of nfa) v.is_led v.own) w.written) ∙ written_spells (lead_of nfa) closed

  are_closed : AreClosed nfa.rows closed
  are_closed = grind (arith, common_steps, closed_stands, every-weaker, rows_are, every_by, firsts_twice)

  pub made_key : {asked : Facts} {label key : List ℕ} {bits : ℕ} → IsWritten bits (made nfa from asked label).context
      → Every (λ k. k ≤ max_id) label → length label < 2 ^ 32
      → is_dead_state (made nfa from asked label) ≡ false
      → key ≡ bits ∷ (length label ∷ (bit is_led ∷ (label ++ own)))
      → IsMadeKey nfa from asked label key
  made_key {asked} {label} {key} {bits} context patterns few alive e =
      let writes : WritesState nfa.rows (lead_of nfa) (made nfa from asked label) bits is_led own = record {
        context = context;
        written = w.written;
        closed = record { closed = are_closed; patterns = patterns; few = few };
      } in
      record { is_key = key_written writes e; stands_for = spelled_is writes e; alive = alive }

  -- it is dead where nothing is written and nothing follows
  dead_by : (b : Bool) (xs : List ℕ) (label : List ℕ) → rows_by (lead_of nfa) b xs ≡ closed
      → (b ≡ true → 0 < length (lead_of nfa))
      → ((length closed == 0) && (length label == 0)) ≡ (not b && (length xs == 0) && (length label == 0))
  dead_by b xs label e some = grind (arith, common_steps, cases_Bool, led_some)

  pub dead_made : (asked : Facts) (label : List ℕ) → is_dead_state (made nfa from asked label)
      ≡ (not is_led && (length own == 0) && (length label == 0))
  dead_made asked label = grind (arith, common_steps, dead_by, rows_are)

  -- the key as it is written, from what its parts are found to be
  pub key_made : (group : ℕ) {label key : List ℕ} {bits : ℕ} → group ≡ bits_of (facts_with group)
      → bits ≡ (if list_any (λ q. is_look_row (row_at nfa.rows q)) (rows_by (lead_of nfa) is_led own) then group else 0)
      → All (λ k. k ≤ max_id) label → length label < 2 ^ 32
      → (not is_led && (length own == 0) && (length label == 0)) ≡ false
      → key ≡ bits ∷ (length label ∷ (bit is_led ∷ (label ++ own)))
      → IsMadeKey nfa from (facts_with group) label key
  key_made group {label} {key} {bits} number asks patterns few alive e =
      let looks = λ (l : List ℕ). list_any (λ q. is_look_row (row_at nfa.rows q)) l in
      made_key
      (kept_written (looks closed) (facts_with group)
      (asks ∙ ap (λ l. if looks l then group else 0) rows_are) number refl)
      (recursion_from_All (λ k. k ≤ max_id) label patterns) few (dead_made (facts_with group) label ∙ alive)
      e
