-- The bytes that lead a row elsewhere, as they are found one by one.
use Rattle.std.proofs.lemmas.Bool.{cases_Bool}
use Rattle.rx_spec.proofs.Prelude.{common_steps, ◌≡◌, ◌≢◌, ℕ, zero, suc, ◌+◌, ◌-◌, ◌<◌, ◌≤◌, ◌==◌, ◌&&◌, ◌||◌, not}
use Rattle.rx_spec.proofs.Prelude.{nat_le, Bool, true, false, cond, List, [], ◌∷◌, ◌++◌, length, filter, refl, ap, ap₂}
use Rattle.rx_spec.proofs.Prelude.{sym, ◌∙◌, subst, ⊎_elim, arith, length-append, list_any, range_with_len, Contains}
use Rattle.rx_spec.proofs.Prelude.{or-true, and_parts, cases_lt, eq-eqb, ne_eqb, lt-ltb, ltb-true, append-nil}
use Rattle.rx_spec.proofs.Prelude.{append_assoc, filter-append, Table, leaving, id_of, row_of}
use Rattle.rx_order.proofs.Prelude.{IsId, are_needles, filter_within, id_at_row, leaving_of, range_within}
use Rattle.rx_dense.specs.Accels.{takes}
use Rattle.rx_order.proofs.ExchangedRows.{range_more}
use Rattle.rx_order.proofs.KindNumbers.{at_most, over}

-- the bytes below one that lead a row elsewhere
abbrev pub leaving_below : Table → ℕ → ℕ → List ℕ
leaving_below t row byte = filter (λ b. not (t.machine.next row b == row)) (range_with_len 0 byte)

abbrev pub has_space : List ℕ → Bool
has_space bytes = list_any (λ byte. byte == 32) bytes

-- the bytes below one are found, and they are at most three and no space
pub record AreFound (t : Table) (row : ℕ) (found : List ℕ) (byte : ℕ) : Type 0 where
  pub are : found ≡ leaving_below t row byte
  pub few : length found ≤ 3
  pub no_space : has_space found ≡ false

pub none_found : (t : Table) (row : ℕ) → AreFound t row [] 0
none_found t row = record { are = refl; few = omega arith; no_space = refl }

pub not_true : (b : Bool) → not b ≡ true → b ≡ false
not_true b e = grind (arith, common_steps, cases_Bool)

pub not_false : (b : Bool) → not b ≡ false → b ≡ true
not_false b e = grind (arith, common_steps, cases_Bool)

pub last_false : (a b : Bool) → (a && b && false) ≡ false
last_false a b = grind (arith, common_steps, cases_Bool)

-- what passes of a longer range has what passes of a shorter one in front
filter_rest : (p : ℕ → Bool) (n more : ℕ)
    → (rest : List ℕ) × (filter p (range_with_len 0 (n + more)) ≡ filter p (range_with_len 0 n) ++ rest)
filter_rest p n zero = grind (arith, common_steps, append-nil)
filter_rest p n (suc more) =
    let before = filter_rest p n more in
    let next : n + suc more ≡ n + more + 1 = omega arith in (
      before.0 ++ filter p ((n + more) ∷ []),
      ap (λ k. filter p (range_with_len 0 k)) next ∙ ap (filter p) (range_more (n + more))
          ∙ filter-append p (range_with_len 0 (n + more)) ((n + more) ∷ [])
          ∙ ap (λ xs. xs ++ filter p ((n + more) ∷ [])) before.1
          ∙ append_assoc (filter p (range_with_len 0 n)) before.0 (filter p ((n + more) ∷ [])),
    )

any_append : (xs ys : List ℕ) → has_space (xs ++ ys) ≡ (has_space xs || has_space ys)
any_append xs ys = grind (arith, common_steps)

module _ {t : Table} {row byte : ℕ} {found : List ℕ} (h : AreFound t row found byte) where
  next_byte : leaving_below t row (byte + 1)
      ≡ found ++ cond (not (t.machine.next row byte == row)) (byte ∷ []) []
  next_byte = grind (arith, common_steps, range_more, filter-append)

  -- a byte is none of those below it
  pub new_byte : Contains found byte → ⊥
  new_byte c =
      let within = filter_within (λ b. not (t.machine.next row b == row)) (range_with_len 0 byte) byte
      (subst (λ xs. Contains xs byte) h.are c) in
      omega (arith, (range_within 0 byte byte within).1)

  pub stays_found : t.machine.next row byte ≡ row → AreFound t row found (byte + 1)
  stays_found e = grind (arith, common_steps, append-nil, next_byte, eq-eqb)

  more_is : t.machine.next row byte ≢ row → leaving_below t row (byte + 1) ≡ found ++ byte ∷ []
  more_is ne = next_byte ∙ ap (λ b. found ++ cond (not b) (byte ∷ []) []) (ne_eqb (t.machine.next row byte) row ne)

  pub leaves_found : t.machine.next row byte ≢ row → takes found byte ≡ true
      → AreFound t row (found ++ byte ∷ []) (byte + 1)
  leaves_found ne e = grind (arith, common_steps, and_parts, more_is, length-append, ltb-true, any_append, not_true)

  -- a byte that isn't taken gives the row up
  pub refused : byte < 256 → t.machine.next row byte ≢ row → takes found byte ≡ false
      → are_needles (leaving t row) ≡ false
  refused below ne e =
      let rest = filter_rest (λ b. not (t.machine.next row b == row)) (byte + 1) (256 - (byte + 1)) in
      let all : byte + 1 + (256 - (byte + 1)) ≡ 256 = omega arith in
      let whole : leaving t row ≡ (found ++ byte ∷ []) ++ rest.0 =
      ap (λ n. filter (λ b. not (t.machine.next row b == row)) (range_with_len 0 n)) (sym all)
      ∙ rest.1 ∙ ap (λ xs. xs ++ rest.0) (more_is ne) in
      ap are_needles whole
      ∙ ⊎_elim
      (λ (room : length found < 3).
      let space : (byte == 32) ≡ true = taken_space room e in
      too_spacy rest.0 space)
      (λ (full : 3 ≤ length found). too_long rest.0 full)
      (cases_lt (length found) 3)
    where
      taken_space : length found < 3 → takes found byte ≡ false → (byte == 32) ≡ true
      taken_space room f = not_false (byte == 32) (sym (ap (λ b. b && not (byte == 32)) (lt-ltb
          (length found) 3 room)) ∙ f)

      too_long : (ys : List ℕ) → 3 ≤ length found → are_needles ((found ++ byte ∷ []) ++ ys) ≡ false
      too_long ys full =
          let n = length-append (found ++ byte ∷ []) ys in
          let k = length-append found (byte ∷ []) in
          ap₂ (λ (a b : Bool). a && b && not (has_space ((found ++ byte ∷ []) ++ ys)))
          (at_most 1 (length ((found ++ byte ∷ []) ++ ys)) (omega arith))
          (over (length ((found ++ byte ∷ []) ++ ys)) 3 (omega arith))

      too_spacy : (ys : List ℕ) → (byte == 32) ≡ true → are_needles ((found ++ byte ∷ []) ++ ys) ≡ false
      too_spacy ys space =
          let bytes : List ℕ = (found ++ byte ∷ []) ++ ys in
          let has : has_space bytes ≡ true =
          any_append (found ++ byte ∷ []) ys
          ∙ ap (λ b. b || has_space ys) (any_append found (byte ∷ [])
          ∙ ap (λ b. has_space found || (b || false)) space ∙ or-true (has_space found)) in
          ap (λ b. nat_le 1 (length bytes) && nat_le (length bytes) 3 && not b) has
          ∙ last_false (nat_le 1 (length bytes)) (nat_le (length bytes) 3)

-- all bytes are found
pub found_all : {t : Table} {row : ℕ} {found : List ℕ} → AreFound t row found 256 → 1 ≤ length found
    → are_needles (leaving t row) ≡ true
found_all {t} {row} {found} h some = grind (arith, common_steps, at_most)

pub found_none : {t : Table} {row : ℕ} {found : List ℕ} → AreFound t row found 256 → length found ≡ 0
    → are_needles (leaving t row) ≡ false
found_none {t} {row} {found} h none = grind (arith, common_steps, over)

-- ---- ids

pub leaving_is : (t : Table) (row : ℕ) → leaving_of t row ≡ leaving t row
unfolding leaving_of
leaving_is t row = refl

-- an id is known by its row
pub same_id : (ids : List ℕ) (a b : ℕ) → IsId ids a → IsId ids b → row_of ids a ≡ row_of ids b → a ≡ b
same_id ids a b a_is b_is e = sym (id_at_row ids a a_is) ∙ ap (id_of ids) e ∙ id_at_row ids b b_is
