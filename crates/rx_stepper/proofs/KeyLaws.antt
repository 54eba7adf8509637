-- Keys: what is written spells its state, and a key tells what it spells.
use Rattle.rx_spec.proofs.Prelude.{rules, ◌≡◌, ℕ, ◌+◌, ◌<◌, ◌≤◌, ◌&&◌, leb, Bool, true, if◌then◌else◌, List, [], ◌∷◌}
use Rattle.rx_spec.proofs.Prelude.{◌++◌, ◌^◌, length, get_or, refl, ap, sym, ◌∙◌, subst, arith, length-append}
use Rattle.rx_spec.proofs.Prelude.{common_steps, All, and_parts, le-leb, lt-ltb, and_from, All-from_recursion}
use Rattle.rx_spec.proofs.Prelude.{bytes_eq-Decides, list_all, bytes_eq, max_id, id_count, Facts, no_facts, Row, State}
use Rattle.rx_spec.proofs.Prelude.{row_at, firsts}
use Rattle.rx_stepper.proofs.Prelude.{Apart, Apart-fresh, Contains-nil, are_closed, bit, bits_of, every-weaker}
use Rattle.rx_stepper.proofs.Prelude.{facts_with, few_firsts, fresh_itself, is_closed, is_key, key_of, label_of, own_of}
use Rattle.rx_stepper.proofs.Prelude.{rows_by, spelled, stands, written, written_as}
use Rattle.std.specs.List.{AllByRecursion as Every}
use Rattle.rx_stepper.proofs.Members.{apart_front}
use Rattle.rx_stepper.proofs.WrittenRows.{written_spells}

-- what are_closed tests
pub record AreClosed (rows : List Row) (qs : List ℕ) : Type 0 where
  pub stand : Every (λ q. stands (row_at rows q) ≡ true) qs
  pub ids : Every (λ q. q ≤ max_id) qs
  pub once : firsts qs ≡ qs

pub closed_few : {rows : List Row} {qs : List ℕ} → AreClosed rows qs → length qs ≤ id_count
closed_few {qs = qs} c =
    few_firsts qs id_count (sym c.once)
    (every-weaker (λ q. q ≤ max_id) (λ q. q < id_count) qs (λ q h. omega arith) c.ids)

-- what is_closed tests
pub record IsClosed (rows : List Row) (s : State) : Type 0 where
  pub closed : AreClosed rows s.rows
  pub patterns : Every (λ k. k ≤ max_id) s.label
  pub few : length s.label < 2 ^ 32

each_tested : {P : ℕ → Type 0} (p : ℕ → Bool) (xs : List ℕ) → ((x : ℕ) → p x ≡ true → P x) → list_all p xs ≡ true
    → Every P xs
each_tested p [] f h = tt
each_tested p (x ∷ xs) f h =
    let parts = and_parts (p x) (list_all p xs) h in
    (f x parts.0, each_tested p xs f parts.1)

pub rows_tested : (rows : List Row) (qs : List ℕ) → are_closed rows qs ≡ true → AreClosed rows qs
rows_tested rows qs h = grind (arith, common_steps, each_tested, bytes_eq-Decides)

pub closed_tested : (rows : List Row) (s : State) → is_closed rows s ≡ true → IsClosed rows s
closed_tested rows s h = search (rules, each_tested)

rows_pass : (rows : List Row) (xs : List ℕ) → Every (λ q. stands (row_at rows q) ≡ true) xs → Every (λ q. q ≤ max_id) xs
    → list_all (λ q. stands (row_at rows q) && leb q max_id) xs ≡ true
rows_pass rows [] s h = refl
rows_pass rows (x ∷ xs) s h =
    and_from (stands (row_at rows x) && leb x max_id) _
    (and_from (stands (row_at rows x)) (leb x max_id) s.0 (le-leb x max_id h.0)) (rows_pass rows xs s.1 h.1)

labels_pass : (xs : List ℕ) → Every (λ k. k ≤ max_id) xs → list_all (λ k. leb k max_id) xs ≡ true
labels_pass [] h = refl
labels_pass (x ∷ xs) h = and_from (leb x max_id) _ (le-leb x max_id h.0) (labels_pass xs h.1)

pub rows_closed : (rows : List Row) (qs : List ℕ) → AreClosed rows qs → are_closed rows qs ≡ true
rows_closed rows qs c = grind (arith, common_steps, and_from, rows_pass, bytes_eq-Decides)

closed_passes : (rows : List Row) (s : State) → IsClosed rows s → is_closed rows s ≡ true
closed_passes rows s c = grind (arith, common_steps, and_from, rows_closed, labels_pass, lt-ltb)

-- ---- fronts

every_front : (P : ℕ → Type 0) (xs ys : List ℕ) → Every P (xs ++ ys) → Every P xs
every_front P [] ys h = tt
every_front P (x ∷ xs) ys h = (h.0, every_front P xs ys h.1)

pub once_apart : (xs : List ℕ) → firsts xs ≡ xs → Apart xs
once_apart xs e = subst Apart e (Apart-fresh [] xs)

pub apart_once : (xs : List ℕ) → Apart xs → firsts xs ≡ xs
apart_once xs a = fresh_itself [] xs a (λ x c old. Contains-nil x old)

pub once_front : (xs ys : List ℕ) → firsts (xs ++ ys) ≡ xs ++ ys → firsts xs ≡ xs
once_front xs ys e = apart_once xs (apart_front xs ys (once_apart (xs ++ ys) e))

pub bits_small : (f : Facts) → bits_of f < 32
bits_small f = grind (arith, common_steps)

-- ---- what a key tells

pub record Spells (rows : List Row) (lead key : List ℕ) : Type 0 where
  pub is : key_of lead (spelled lead key) ≡ key
  pub closed : IsClosed rows (spelled lead key)

pub spells : (rows : List Row) (lead key : List ℕ) → is_key rows lead key ≡ true → Spells rows lead key
spells rows lead key h =
    let s = spelled lead key in
    let parts = and_parts (bytes_eq (key_of lead s) key) (is_closed rows s) h in
    record {
      is = (bytes_eq-Decides (key_of lead s) key).0 parts.0;
      closed = closed_tested rows s parts.1;
    }

-- no two keys spell one state
pub one_key_each : (rows : List Row) (lead j k : List ℕ) → is_key rows lead j ≡ true → is_key rows lead k ≡ true
    → spelled lead j ≡ spelled lead k → j ≡ k
one_key_each rows lead j k hj hk e = grind (arith, common_steps, spells)

module _ {rows : List Row} {lead key : List ℕ} (s : Spells rows lead key) where
  abbrev state : State
  state = spelled lead key

  abbrev own : List ℕ
  own = (written lead (spelled lead key).rows).own

  pub key_len : length key ≡ 3 + length state.label + length own
  key_len = omega (arith, ap length s.is, length-append state.label own)

  pub label_number : get_or key 1 0 ≡ length state.label
  label_number = sym (ap (λ l. get_or l 1 0) s.is)

  pub context_small : get_or key 0 0 < 32
  context_small = subst (λ l. get_or l 0 0 < 32) s.is (bits_small state.context)

  -- the rows that are written are some of them, in front
  pub own_closed : AreClosed rows (own_of key)
  own_closed = grind (arith, common_steps, every_front, once_front)

  pub rows_few : length state.rows ≤ id_count
  rows_few = closed_few s.closed.closed

  pub own_few : length (own_of key) ≤ id_count
  own_few = closed_few own_closed

  pub ids_spelled : All (λ k. k ≤ max_id) (label_of key)
  ids_spelled = All-from_recursion (λ k. k ≤ max_id) state.label s.closed.patterns

-- ---- what is written

-- a context as it is written: its number has its facts and no others
pub record IsWritten (bits : ℕ) (context : Facts) : Type 0 where
  pub bits_are : bits ≡ bits_of context
  pub facts_are : facts_with bits ≡ context

-- a state as it is written, from what stands before its label and rows
pub record WritesState (rows : List Row) (lead : List ℕ) (s : State) (bits : ℕ) (is_led : Bool) (own : List ℕ) : Type 0
  where
    pub context : IsWritten bits s.context
    pub written : written lead s.rows ≡ written_as is_led own
    pub closed : IsClosed rows s

module _ {rows : List Row} {lead : List ℕ} {s : State} {bits : ℕ} {is_led : Bool} {own : List ℕ}
    (w : WritesState rows lead s bits is_led own) {key : List ℕ}
    (e : key ≡ bits ∷ (length s.label ∷ (bit is_led ∷ (s.label ++ own)))) where
  spelled_rows : rows_by lead is_led own ≡ s.rows
  spelled_rows = sym (ap (λ v. rows_by lead v.is_led v.own) w.written) ∙ written_spells lead s.rows

  pub spelled_is : spelled lead key ≡ s
  unfolding label_of
  spelled_is = grind (arith, common_steps, spelled_rows)

  pub key_written : is_key rows lead key ≡ true
  key_written = grind (arith, common_steps, spelled_is, and_from, bytes_eq-Decides, closed_passes)

-- a context as it is kept beside rows
pub kept_written : (asks : Bool) {bits group : ℕ} (asked : Facts) → bits ≡ (if asks then group else 0)
    → group ≡ bits_of asked → facts_with group ≡ asked → IsWritten bits (if asks then asked else no_facts)
kept_written asks asked e bits facts = search rules
