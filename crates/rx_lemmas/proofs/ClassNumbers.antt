-- The numbers of byte classes, by any test of where they end: columns, least bytes, strides.
use Rattle.rx_spec.proofs.Prelude.{common_steps, ◌≡◌, ℕ, zero, suc, ◌+◌, ◌<◌, ◌≤◌, ◌^◌, ⊎_elim, Bool, true, false}
use Rattle.rx_spec.proofs.Prelude.{if◌then◌else◌, List, [], ◌∷◌, ◌++◌, length, get_or, refl, ap, sym, ◌∙◌, subst, arith}
use Rattle.rx_spec.proofs.Prelude.{append-nil, filter, All, nat_le, slice_index, range_with_len, IsStrictlyIncreasing}
use Rattle.rx_spec.proofs.Prelude.{cases_eq, leb-true, leb-false, map-id, length_push, get_or_append_left, All-get_or}
use Rattle.rx_spec.proofs.Prelude.{All-filter, All-from_get_or, length-range_with_len, get_or-range_with_len}
use Rattle.rx_spec.proofs.Prelude.{IsStrictlyIncreasing-filter, class_by, column_by, representatives, least_exponent}
use Rattle.std.proofs.lemmas.List.Elements.{filter_passes}
use Rattle.std.proofs.lemmas.List.FromFn.{filter_of_map_range_with_len_more}
use Rattle.rx_spec.specs.Classes.{alphabet_by, begins_class, stride2_of}
use Rattle.rx_lemmas.proofs.Firsts.{by_test}

module _ (ends : ℕ → Bool) where
  pub class_zero : class_by ends 0 ≡ 0
  unfolding class_by
  class_zero = refl

  pub class_suc : (b : ℕ) → class_by ends (suc b) ≡ class_by ends b + (if ends b then 1 else 0)
  unfolding class_by
  class_suc b = refl

  -- the next byte is of the same class, unless one ends in between
  pub class_stays : (b : ℕ) → ends b ≡ false → class_by ends (suc b) ≡ class_by ends b
  class_stays b e = let s : class_by ends (suc b) ≡ class_by ends b + 0 = rw e at (class_suc b) in omega arith

  pub class_moves : (b : ℕ) → ends b ≡ true → class_by ends (suc b) ≡ class_by ends b + 1
  class_moves b e = rw e at (class_suc b)

  pub class_rises : (b : ℕ) → class_by ends b ≤ class_by ends (suc b)
  class_rises b = omega (arith, class_suc b)

  pub class_step : (b : ℕ) → class_by ends (suc b) ≤ class_by ends b + 1
  class_step b = grind (arith, common_steps, class_moves, class_stays)

  pub class_below : (a b : ℕ) → a ≤ b → class_by ends a ≤ class_by ends b
  class_below a zero h = grind (arith, common_steps)
  class_below a (suc b) h =
      ⊎_elim
      (λ (e : a ≡ suc b). subst (λ c. class_by ends c ≤ class_by ends (suc b)) (sym e) (omega arith))
      (λ (ne : a ≡ suc b → ⊥). omega (arith, class_below a b (omega arith), class_rises b))
      (cases_eq a (suc b))

  -- bytes are of one class exactly where none ends in between
  pub none_ends : (a b : ℕ) → class_by ends a ≡ class_by ends b → (x : ℕ) → a ≤ x → x < b → ends x ≡ false
  none_ends a b same x low high =
      by_test (ends x)
      (λ e. absurd (omega (arith, class_moves x e, class_below a x low, class_below (suc x) b (omega arith))))
      (λ e. e)

  pub one_class : (a b : ℕ) → a ≤ b → ((x : ℕ) → a ≤ x → x < b → ends x ≡ false) → class_by ends a ≡ class_by ends b
  one_class a zero h none = let e : a ≡ 0 = omega arith in ap (class_by ends) e
  one_class a (suc b) h none =
      ⊎_elim
      (λ (e : a ≡ suc b). ap (class_by ends) e)
      (λ (ne : a ≡ suc b → ⊥).
      one_class a b (omega arith) (λ x low high. none x low (omega arith))
      ∙ sym (class_stays b (none b (omega arith) (omega arith))))
      (cases_eq a (suc b))

  -- each number up to that of a byte is a class of one below it
  pub class_used : (b k : ℕ) → k ≤ class_by ends b → (a : ℕ) × (a ≤ b) × (class_by ends a ≡ k)
  class_used zero k h = let z = class_zero in (0, omega arith, omega arith)
  class_used (suc b) k h =
      ⊎_elim
      (λ (e : k ≡ class_by ends (suc b)). (suc b, omega arith, sym e))
      (λ (ne : k ≡ class_by ends (suc b) → ⊥).
      let up = class_step b in
      let rest = class_used b k (omega arith) in
      let low = rest.1 in
      (rest.0, omega arith, rest.2))
      (cases_eq k (class_by ends (suc b)))

  -- ---- columns

  pub column_of_byte : (b : ℕ) → b < 256 → column_by ends b ≡ class_by ends b
  column_of_byte b h = grind (arith, common_steps)

  pub column_below : (unit : ℕ) → unit < 257 → column_by ends unit < alphabet_by ends
  column_below unit h = grind (arith, common_steps, class_below)

  pub column_used : (column : ℕ) → column < alphabet_by ends
      → (unit : ℕ) × (unit < 257) × (column_by ends unit ≡ column)
  column_used column h =
      ⊎_elim
      (λ (e : column ≡ class_by ends 255 + 1). (256, omega arith, sym e))
      (λ (ne : column ≡ class_by ends 255 + 1 → ⊥).
      let found = class_used 255 column (omega arith) in
      let low = found.1 in
      (found.0, omega arith, column_of_byte found.0 (omega arith) ∙ found.2))
      (cases_eq column (class_by ends 255 + 1))

-- without classes each byte is its own
pub class_of_all : (ends : ℕ → Bool) → ((b : ℕ) → ends b ≡ true) → (b : ℕ) → class_by ends b ≡ b
class_of_all ends all zero = class_zero ends
class_of_all ends all (suc b) = omega (arith, class_moves ends b (all b), class_of_all ends all b)

-- ---- the least bytes of classes

-- those below a number
abbrev least_below : (ℕ → Bool) → ℕ → List ℕ
least_below ends n = filter (begins_class ends) (range_with_len 0 n)

module _ (ends : ℕ → Bool) where
  least_more : (n : ℕ) → least_below ends (n + 1) ≡ least_below ends n ++ (if begins_class ends n then n ∷ [] else [])
  least_more n =
      let none : 0 + n ≡ n = omega arith in
      let same = λ (k : ℕ). ap (filter (begins_class ends)) (map-id (range_with_len 0 k)) in
      sym (same (n + 1)) ∙ filter_of_map_range_with_len_more (begins_class ends) (λ (x : ℕ). x) 0 n n none
      ∙ ap (λ (l : List ℕ). l ++ (if begins_class ends n then n ∷ [] else [])) (same n)

  -- those up to a byte: as many as classes, the class of each its place
  record AreLeast (b : ℕ) (bytes : List ℕ) : Type 0 where
    count : length bytes ≡ class_by ends b + 1
    classes : (k : ℕ) → k < length bytes → class_by ends (get_or bytes k 0) ≡ k

  are_least : (b : ℕ) → AreLeast b (least_below ends (b + 1))
  are_least zero = grind (arith, common_steps, class_zero)
  are_least (suc b) =
      let before = are_least b in
      let one : suc b ≡ b + 1 = omega arith in
      subst (AreLeast (suc b)) (sym (least_more (suc b)))
      (subst (λ n. AreLeast (suc b) (least_below ends n ++ (if ends b then suc b ∷ [] else []))) (sym one)
      (by_test (ends b)
      (λ e. rw e (begun b (least_below ends (b + 1)) e before))
      (λ e. rw e (going b (least_below ends (b + 1)) e before))))
    where
      going : (b : ℕ) (bytes : List ℕ) → ends b ≡ false → AreLeast b bytes → AreLeast (suc b) (bytes ++ [])
      going b bytes e h = grind (arith, common_steps, append-nil, class_stays)

      begun : (b : ℕ) (bytes : List ℕ) → ends b ≡ true → AreLeast b bytes → AreLeast (suc b) (bytes ++ (suc b ∷ []))
      begun b bytes e h = grind (arith, common_steps, class_moves, length_push, class_by, get_or_append_left)

  pub representatives_counted : length (representatives ends) ≡ class_by ends 255 + 1
  representatives_counted = (are_least 255).count

  -- one for each class, in their order,
  pub representative_class : (k : ℕ) → k < length (representatives ends)
      → class_by ends (slice_index (representatives ends) k) ≡ k
  representative_class = (are_least 255).classes

  pub representatives_rise : IsStrictlyIncreasing (representatives ends)
  representatives_rise = IsStrictlyIncreasing-filter (begins_class ends) (range_with_len 0 256) bytes_rise
    where
      bytes_rise : IsStrictlyIncreasing (range_with_len 0 256)
      bytes_rise k h =
          omega (
            arith,
            get_or-range_with_len 0 256 k 0 (omega arith),
            get_or-range_with_len 0 256 (k + 1) 0 (omega arith),
          )

  pub representative_below : (k : ℕ) → k < length (representatives ends)
      → slice_index (representatives ends) k < 256
  representative_below k h =
      All-get_or (λ b. b < 256) (representatives ends) k 0 h
      (All-filter (begins_class ends) (λ b. b < 256) (range_with_len 0 256) bytes_below)
    where
      bytes_below : All (λ b. b < 256) (range_with_len 0 256)
      bytes_below =
          All-from_get_or (λ b. b < 256) (range_with_len 0 256) 0
          (λ i l. let n = length-range_with_len 0 256 in
          omega (arith, get_or-range_with_len 0 256 i 0 (omega arith)))

  -- none below it has its class
  begins_above : (b a : ℕ) → begins_class ends b ≡ true → class_by ends a ≡ class_by ends b → b ≤ a
  begins_above zero a begins same = omega arith
  begins_above (suc b) a begins same = grind (arith, common_steps, class_moves, class_below)

  pub representative_least : (k a : ℕ) → k < length (representatives ends) → class_by ends a ≡ k
      → slice_index (representatives ends) k ≤ a
  representative_least k a h same =
      let b = slice_index (representatives ends) k in
      let begins =
      All-get_or (λ x. begins_class ends x ≡ true) (representatives ends) k 0 h
      (filter_passes (begins_class ends) (range_with_len 0 256)) in
      begins_above b a begins (same ∙ sym (representative_class k h))

  -- ---- alphabets and strides

  class_up_to : (b : ℕ) → class_by ends b ≤ b
  class_up_to zero = omega (arith, class_zero ends)
  class_up_to (suc b) = omega (arith, class_up_to b, class_step ends b)

  pub alphabet_within : (2 ≤ alphabet_by ends) × (alphabet_by ends ≤ 257)
  alphabet_within = (omega arith, omega (arith, class_up_to 255))

-- an exponent from k on, at most so many higher
record IsExponent (len k more exponent : ℕ) : Type 0 where
  from : k ≤ exponent
  upto : exponent ≤ k + more
  holds : exponent < k + more → len ≤ 2 ^ exponent
  least : (j : ℕ) → k ≤ j → j < exponent → 2 ^ j < len

exponent_is : (len k more : ℕ) → IsExponent len k more (least_exponent len k more)
unfolding least_exponent
exponent_is len k zero = grind (arith, common_steps)
exponent_is len k (suc more) =
    by_test (nat_le len (2 ^ k))
    (λ e. grind (arith, common_steps, leb-true))
    (λ e. rw e (later (exponent_is len (k + 1) more) (leb-false len (2 ^ k) e)))
  where
    later : IsExponent len (k + 1) more (least_exponent len (k + 1) more) → 2 ^ k < len
        → IsExponent len k (suc more) (least_exponent len (k + 1) more)
    later h under = grind (arith, common_steps)

-- the stride of an alphabet holds it, no lower power of two does, and its exponent is 1 to 9
pub stride_holds : (len : ℕ) → len ≤ 512 → len ≤ 2 ^ stride2_of len
stride_holds len small = grind (arith, common_steps, exponent_is)

pub stride_least : (len k : ℕ) → len ≤ 2 ^ k → stride2_of len ≤ k
stride_least len k holds = grind (arith, common_steps, exponent_is)

pub stride_within : (len : ℕ) → 2 ≤ len → (1 ≤ stride2_of len) × (stride2_of len ≤ 9)
stride_within len two = grind (arith, common_steps, exponent_is)
