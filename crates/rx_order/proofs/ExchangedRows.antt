-- Lists of the numbers below a number, in any order: each number stands at one place.
use Rattle.rx_spec.proofs.Prelude.{common_steps, ◌≡◌, ℕ, ◌+◌, ◌<◌, ◌==◌, List, [], ◌∷◌, ◌++◌, length, get_or, map, refl}
use Rattle.rx_spec.proofs.Prelude.{sym, ◌∙◌, ap, arith, eqb, All, Contains, slice_index, IsDistinct, position_or_len}
use Rattle.rx_spec.proofs.Prelude.{range_with_len, swap, IsPermutation, cases_eq, eq-eqb, ne_eqb, get_or-map}
use Rattle.rx_spec.proofs.Prelude.{get_or_default, map-id, map-set, All-from_get_or, All-get_or, get_or-range_with_len}
use Rattle.rx_spec.proofs.Prelude.{length-range_with_len, map-range_with_len_more, All-permutation, length_permutation}
use Rattle.rx_spec.proofs.Prelude.{position_or_len_is}
use Rattle.rx_order.proofs.Prelude.{Contains-permutation}
use Rattle.std.proofs.lemmas.Map.Keys.{IsDistinct-IsPermutation, IsDistinct-from_apart, apart_from_distinct}

-- images change places with what they are images of
pub map-swap : {X Y : Type 0} (f : X → Y) (xs : List X) (i j : ℕ) → i < length xs → j < length xs
    → map f (swap xs i j) ≡ swap (map f xs) i j
map-swap f xs i j hi hj = grind (arith, common_steps, map-set, get_or-map)

-- one number more
pub range_more : (n : ℕ) → range_with_len 0 (n + 1) ≡ range_with_len 0 n ++ n ∷ []
range_more n =
    sym (map-id (range_with_len 0 (n + 1))) ∙ map-range_with_len_more (λ k. k) 0 n n (omega arith)
    ∙ ap (λ l. l ++ n ∷ []) (map-id (range_with_len 0 n))

flips : (x y : ℕ) → eqb x y ≡ eqb y x
flips x y = grind (arith, common_steps, eq-eqb, ne_eqb, cases_eq)

range_is_distinct : (n : ℕ) → IsDistinct eqb (range_with_len 0 n)
range_is_distinct n =
    IsDistinct-from_apart eqb (range_with_len 0 n)
    (λ i j d low h.
    let within : j < n = omega (arith, length-range_with_len 0 n) in
    let at_i = get_or-range_with_len 0 n i d (omega arith) in
    let at_j = get_or-range_with_len 0 n j d within in
    ne_eqb (get_or (range_with_len 0 n) i d) (get_or (range_with_len 0 n) j d) (λ e. omega arith))

-- ---- the numbers below n, in some order

module _ {n : ℕ} {rows : List ℕ} (p : IsPermutation (range_with_len 0 n) rows) where
  pub count_of : length rows ≡ n
  count_of = length_permutation (range_with_len 0 n) rows p ∙ length-range_with_len 0 n

  pub row_below : (place : ℕ) → place < n → slice_index rows place < n
  row_below place h =
      let below : All (λ row. row < n) (range_with_len 0 n) =
      All-from_get_or (λ row. row < n) (range_with_len 0 n) 0
      (λ i low.
      let within : i < n = omega (arith, length-range_with_len 0 n) in
      let at_i = get_or-range_with_len 0 n i 0 within in
      omega arith) in
      All-get_or (λ row. row < n) rows place 0 (omega (arith, count_of))
      (All-permutation (λ row. row < n) (range_with_len 0 n) rows p below)

  -- the place of the row at a place
  pub place_of-row : (place : ℕ) → place < n → position_or_len (λ other. other == slice_index rows place) rows ≡ place
  place_of-row place h =
      let apart = IsDistinct-IsPermutation eqb flips (range_with_len 0 n) rows p (range_is_distinct n) in
      position_or_len_is (λ other. other == slice_index rows place) rows place 0 (omega (arith, count_of))
      (λ k low. apart_from_distinct eqb rows k place 0 apart low (omega (arith, count_of)))
      (λ l. eq-eqb (slice_index rows place) (slice_index rows place) refl)

  -- each row is at its place
  pub row_at_place : (row : ℕ) → row < n
      → (position_or_len (λ other. other == row) rows < n)
      × (slice_index rows (position_or_len (λ other. other == row) rows) ≡ row)
  row_at_place row h =
      at (Contains-permutation (range_with_len 0 n) rows row p
      (row, omega (arith, length-range_with_len 0 n), omega (arith, get_or-range_with_len 0 n row row h)))
    where
      at : Contains rows row
          → (position_or_len (λ other. other == row) rows < n)
          × (slice_index rows (position_or_len (λ other. other == row) rows) ≡ row)
      at (k, low, e) =
          let within : k < n = omega (arith, count_of) in
          let is : slice_index rows k ≡ row = get_or_default rows k 0 row low ∙ e in
          let place : position_or_len (λ other. other == row) rows ≡ k =
          ap (λ x. position_or_len (λ other. other == x) rows) (sym is) ∙ place_of-row k within in
          (omega arith, ap (slice_index rows) place ∙ is)

  -- two places have different rows
  pub places_apart : (i j : ℕ) → i < n → j < n → slice_index rows i ≡ slice_index rows j → i ≡ j
  places_apart i j hi hj e =
      sym (place_of-row i hi) ∙ ap (λ row. position_or_len (λ other. other == row) rows) e ∙ place_of-row j hj
