-- The front of rows that has to be written, found by the places of the lead-in's rows.
use Rattle.rx_spec.proofs.Prelude.{common_steps, ◌≡◌, ℕ, zero, suc, ◌+◌, ◌-◌, ◌<◌, ◌≤◌, Bool, true, false, List, []}
use Rattle.rx_spec.proofs.Prelude.{◌∷◌, ◌++◌, length, take, drop, get_or, refl, ap, sym, ◌∙◌, subst, arith}
use Rattle.rx_spec.proofs.Prelude.{append_assoc, length-append, length-take, ⊎_elim, ltb, set, get_or-set_same}
use Rattle.rx_spec.proofs.Prelude.{get_or-set_other, cases_lt, eqb-false, eqb-true, Some, slice_get, slice_index_or}
use Rattle.rx_spec.proofs.Prelude.{same_Some}
use Rattle.rx_stepper.proofs.Prelude.{Apart, AreMetTo, ArePlaces, IsLeast, by_test, led, no_place, seen_true}
use Rattle.rx_stepper.proofs.Prelude.{take-append-drop, without}
use Rattle.rx_stepper.proofs.Members.{In, was, in_cases, in_nil, in_here, in_there, in_left, in_right, in_split, not_in}
use Rattle.rx_stepper.proofs.Members.{apart_front, apart_last}
use Rattle.rx_stepper.proofs.WrittenRows.{comes_again, comes_from, dropped}

-- ---- a list about a place

there : (xs : List ℕ) (place : ℕ) {q : ℕ} → slice_get xs place ≡ Some q → xs ≡ take place xs ++ q ∷ drop (suc place) xs
there [] place e = absurd (cc)
there (x ∷ xs) zero e = ap (λ v. v ∷ xs) (cc)
there (x ∷ xs) (suc place) e = ap (λ l. x ∷ l) (there xs place e)

-- a list of two parts and one between them has that one at the length of the first
seam : (before behind : List ℕ) (x : ℕ) → slice_get (before ++ x ∷ behind) (length before) ≡ Some x
seam [] behind x = refl
seam (y ∷ ys) behind x = seam ys behind x

-- what stands below a place is in the front
below : (before rest : List ℕ) (place : ℕ) {q : ℕ} → place < length before → slice_get (before ++ rest) place ≡ Some q
    → In before q
below [] rest place h e = absurd (omega arith)
below (x ∷ xs) rest zero {q} h e = grind (arith, common_steps)
below (x ∷ xs) rest (suc place) {q} h e = in_there x q xs (below xs rest place (omega arith) e)

-- and what is in the front stands below its end
in_front : (xs : List ℕ) (n q : ℕ) → In (take n xs) q → (place : ℕ) × (place < n) × (slice_get xs place ≡ Some q)
in_front xs zero q i = absurd (cc)
in_front [] (suc n) q i = absurd (cc)
in_front (x ∷ xs) (suc n) q i =
    ⊎_elim
    (λ (s : q ≡ x). (zero, omega arith, ap Some (sym s)))
    (λ (o : In (take n xs) q). let t = in_front xs n q o in (suc t.0, omega arith, t.2))
    (in_cases x q (take n xs) i)

not_both : {b : Bool} → b ≡ false → b ≡ true → ⊥
not_both e f = cc

left_at : (xs ys : List ℕ) (i : ℕ) → i < length xs → slice_get (xs ++ ys) i ≡ Some (get_or xs i 0)
left_at [] ys i h = absurd (omega arith)
left_at (x ∷ xs) ys zero h = refl
left_at (x ∷ xs) ys (suc i) h = left_at xs ys i (omega arith)

some_within : (xs : List ℕ) (i : ℕ) {q : ℕ} → slice_get xs i ≡ Some q → i < length xs
some_within [] i e = absurd (cc)
some_within (x ∷ xs) zero e = omega arith
some_within (x ∷ xs) (suc i) e = omega (arith, some_within xs i e)

pub at_or : {X : Type 0} (xs : List X) (i : ℕ) {q : X} → i < length xs → q ≡ get_or xs i q → slice_get xs i ≡ Some q
at_or [] i h e = absurd (omega arith)
at_or (x ∷ xs) zero h e = ap Some (sym e)
at_or (x ∷ xs) (suc i) h e = at_or xs i (omega arith) e

-- ---- how many rows at the front pass a test

module _ (met : ℕ → Bool) (rows : List ℕ) {i : ℕ}
    (below_i : (place q : ℕ) → place < i → slice_get rows place ≡ Some q → met q ≡ true) where
  pub met_more : {q : ℕ} → i < length rows → q ≡ get_or rows i q → met q ≡ true → (place p : ℕ) → place < i + 1
      → slice_get rows place ≡ Some p → met p ≡ true
  met_more {q} h e m place p lt k = grind (arith, common_steps, same_Some, at_or, cases_lt)

  pub met_to : {q : ℕ} → i < length rows → q ≡ get_or rows i q → met q ≡ false → AreMetTo met rows i
  met_to {q} h e m = grind (arith, common_steps, same_Some, at_or)

  pub met_all : length rows ≤ i → AreMetTo met rows (length rows)
  met_all h = grind (arith, common_steps, some_within)

-- ---- the front that is looked at

-- Between two turns: the rows up to a length give the same, the lead-in's first ones are among them, and the next one
-- isn't.
pub record Trimmed (lead own : List ℕ) (len met : ℕ) : Type 0 where
  pub within : len ≤ length own
  pub same : led (take len own) lead ≡ led own lead
  pub front_met : AreMetTo (was (take len own)) lead met

pub trimmed_none : {lead own : List ℕ} {met : ℕ} → AreMetTo (was own) lead met → Trimmed lead own (length own) met
trimmed_none {lead} {own} {met} m = grind (arith, common_steps)

last_same : (a b : List ℕ) {x y : ℕ} → a ++ x ∷ [] ≡ b ++ y ∷ [] → x ≡ y
last_same [] [] e = cc
last_same [] (z ∷ b) {x} {y} e = absurd (omega (arith, ap length e, length-append b (y ∷ [])))
last_same (z ∷ a) [] {x} {y} e = absurd (omega (arith, ap length e, length-append a (x ∷ [])))
last_same (z ∷ a) (v ∷ b) {x} {y} e = let rest : a ++ x ∷ [] ≡ b ++ y ∷ [] = cc in last_same a b rest

-- the last of the rows that are looked at, and those before it
pub record LastRow (own : List ℕ) (len : ℕ) (front : List ℕ) (x : ℕ) : Type 0 where
  pub whole : take len own ≡ front ++ x ∷ []
  pub front_is : front ≡ take (len - 1) own

pub last_row : (own : List ℕ) (len : ℕ) {x : ℕ} → 0 < len → len ≤ length own → x ≡ get_or own (len - 1) x
    → LastRow own len (take (len - 1) own) x
last_row own len {x} h k e = grind (arith, common_steps)

module _ {lead own places : List ℕ} (places_are : ArePlaces lead places) (lead_apart : Apart lead)
    (own_apart : Apart own)
    {len met x : ℕ} {front : List ℕ} (t : Trimmed lead own len met) (l : LastRow own len front x) where
  abbrev place : ℕ
  place = slice_index_or places x no_place

  front_apart : Apart (front ++ x ∷ [])
  front_apart =
      subst Apart l.whole (apart_front (take len own) (drop len own)
      (subst Apart (sym (take-append-drop len own)) own_apart))

  -- it would come again at once
  module _ (again : place < met) where
    here : slice_get lead place ≡ Some x
    here = places_are.is_there x (omega arith)

    abbrev before : List ℕ
    before = take place lead

    lead_is : lead ≡ before ++ x ∷ drop (suc place) lead
    lead_is = there lead place here

    before_apart : In before x → ⊥
    before_apart =
        apart_last before x
        (apart_front (before ++ x ∷ []) (drop (suc place) lead)
        (subst Apart (lead_is ∙ sym (append_assoc before (x ∷ []) (drop (suc place) lead))) lead_apart))

    all_before : (q : ℕ) → In before q → In front q
    all_before q i =
        let at = in_front lead place q i in
        let listed : In (front ++ x ∷ []) q =
        subst (λ l. In l q) l.whole (t.front_met.before at.0 q (omega arith) at.2) in
        ⊎_elim
        (λ (f : In front q). f)
        (λ (o : In (x ∷ []) q).
        absurd (⊎_elim (λ (s : q ≡ x). before_apart (subst (In before) s i)) (λ (n : In [] q). in_nil q n)
        (in_cases x q [] o)))
        (in_split front (x ∷ []) q listed)

    pub trimmed_more : Trimmed lead own (len - 1) place
    trimmed_more =
        let again_is = comes_again front before (drop (suc place) lead) x front_apart (subst Apart lead_is lead_apart)
        all_before in
        let whole_again = subst (λ m. without front m ≡ x ∷ without (front ++ x ∷ []) m) (sym lead_is) again_is in
        record {
          within = omega arith;
          same =
              ap (λ l. led l lead) (sym l.front_is) ∙ dropped lead front x whole_again
              ∙ ap (λ l. led l lead) (sym l.whole) ∙ t.same;
          front_met = record {
            within = omega arith;
            before = λ i q lt e.
                subst (λ l. In l q) l.front_is
                (all_before q (below before (x ∷ drop (suc place) lead) i
                (omega (arith, length-take place lead))
                (subst (λ m. slice_get m i ≡ Some q) lead_is e)));
            next = λ q e.
                let same : x ≡ q = same_Some x q (sym here ∙ e) in
                subst (λ v. was (take (len - 1) own) v ≡ false) same
                (subst (λ m. was m x ≡ false) l.front_is (not_in front x (apart_last front x front_apart)));
          };
        }

  -- it would not
  pub trimmed_least : met ≤ place → IsLeast lead (take len own)
  trimmed_least stops = record {
    least = λ other y e w.
        let from = comes_from other lead (without (take len own) lead) y w in
        let same : y ≡ x = last_same other front (sym e ∙ l.whole) in
        let y_at : slice_get lead (length from.0) ≡ Some y =
        subst (λ m. slice_get m (length from.0) ≡ Some y) (sym from.2) (seam from.0 from.1 y) in
        let x_place = places_are.is_place (length from.0) x (y_at ∙ ap Some same) in
        ⊎_elim
        (λ (lt : met < length from.0).
        let q = get_or from.0 met 0 in
        let at : slice_get lead met ≡ Some q =
        subst (λ m. slice_get m met ≡ Some q) (sym from.2) (left_at from.0 (y ∷ from.1) met lt) in
        let there_is : was (take len own) q ≡ true =
        subst (λ m. In m q) (sym e) (in_left other (y ∷ []) q (from.3 q (below from.0 (y ∷ from.1) met lt
        (left_at from.0 (y ∷ from.1) met lt)))) in
        absurd (not_both (t.front_met.next q at) there_is))
        (λ (ge : length from.0 ≤ met).
        let met_is : met ≡ length from.0 = omega arith in
        let there_is : was (take len own) y ≡ true =
        subst (λ m. In m y) (sym e) (in_right other (y ∷ []) y (in_here y [])) in
        absurd (not_both (t.front_met.next y (ap (slice_get lead) met_is ∙ y_at)) there_is))
        (cases_lt met (length from.0));
  }

-- ---- the places of rows

pub in_at : (xs : List ℕ) (q : ℕ) → In xs q → (place : ℕ) × (place < length xs) × (slice_get xs place ≡ Some q)
in_at [] q i = absurd (in_nil q i)
in_at (x ∷ xs) q i =
    ⊎_elim
    (λ (s : q ≡ x). (zero, omega arith, ap Some (sym s)))
    (λ (o : In xs q). let t = in_at xs q o in (suc t.0, omega arith, t.2))
    (in_cases x q xs i)

pub at_in : (xs : List ℕ) (place : ℕ) {q : ℕ} → slice_get xs place ≡ Some q → In xs q
at_in [] place e = absurd (cc)
at_in (x ∷ xs) zero {q} e = subst (λ v. In (x ∷ xs) v) (same_Some x q e) (in_here x xs)
at_in (x ∷ xs) (suc place) {q} e = in_there x q xs (at_in xs place e)

-- a row has a place where it is one of the list
pub has_place : {rows places : List ℕ} → ArePlaces rows places → (q : ℕ)
    → ltb (slice_index_or places q no_place) (length rows) ≡ was rows q
has_place {rows} {places} p q = grind (arith, common_steps, was, at_in, in_at)

apart_at : (xs : List ℕ) → Apart xs → (a b : ℕ) {q : ℕ} → slice_get xs a ≡ Some q → slice_get xs b ≡ Some q → a ≡ b
apart_at [] apart a b e f = absurd (cc)
apart_at (x ∷ xs) apart zero zero e f = refl
apart_at (x ∷ xs) apart zero (suc b) e f = grind (arith, common_steps, seen_true, same_Some, at_in)
apart_at (x ∷ xs) apart (suc a) zero e f = grind (arith, common_steps, seen_true, same_Some, at_in)
apart_at (x ∷ xs) apart (suc a) (suc b) e f = ap suc (apart_at xs apart.1 a b e f)

-- the rows up to a place have theirs
pub record Placed (rows places : List ℕ) (place : ℕ) : Type 0 where
  pub is_there : (q : ℕ) → slice_index_or places q no_place < length rows
      → slice_get rows (slice_index_or places q no_place) ≡ Some q
  pub is_place : (i q : ℕ) → i < place → slice_get rows i ≡ Some q → slice_index_or places q no_place ≡ i

pub placed_more : {rows places : List ℕ} {place row : ℕ} → Apart rows → Placed rows places place
    → slice_get rows place ≡ Some row → row < length places → Placed rows (set places row place) (place + 1)
placed_more {rows} {places} {place} {row} apart p here within =
    grind (
      arith,
      common_steps,
      by_test,
      eqb-true,
      get_or-set_same,
      get_or-set_other,
      eqb-false,
      apart_at,
      same_Some,
      cases_lt,
    )

pub all_placed : {rows places : List ℕ} {place : ℕ} → length rows ≤ place → Placed rows places place
    → ArePlaces rows places
all_placed {rows} {places} {place} h p = grind (arith, common_steps, some_within)
