-- Rows that were sorted by their kinds, and by their ranks within a kind.
use Rattle.rx_spec.proofs.Prelude.{rules, ◌≡◌, ℕ, ◌+◌, ◌*◌, ◌^◌, ◌<◌, ◌≤◌, List, [], ◌∷◌, length, map, slice_index}
use Rattle.rx_spec.proofs.Prelude.{get_or, All, refl, ap, sym, ◌∙◌, subst, arith, nat_le, true, false, common_steps}
use Rattle.rx_spec.proofs.Prelude.{range_with_len, IsPermutation, get_or-map, length-map, All-cons, All-get_or, All-nil}
use Rattle.rx_spec.proofs.Prelude.{leb-false, leb-true, length-map-range_with_len, All-permutation, length_permutation}
use Rattle.rx_order.proofs.Prelude.{AreByKind, AreRanked, IsNonDecreasingBy, IsPartitionPoint, IsPartitionedBy}
use Rattle.rx_order.proofs.Prelude.{IsPermutation-map, Ranked, ranked_row}

none : Ranked
none = record { kind = 0; rank = 0; number = 0 }

-- by what rows are sorted
abbrev pub key : Ranked → ℕ
key row = row.kind * 2 ^ 32 + row.rank

-- The kinds up to one end before a place.
pub record IsEnd (sorted : List Ranked) (kind end : ℕ) : Type 0 where
  pub before : (place : ℕ) (d : Ranked) → place < end → place < length sorted → (get_or sorted place d).kind ≤ kind
  pub behind : (place : ℕ) (d : Ranked) → end ≤ place → place < length sorted → kind < (get_or sorted place d).kind
  pub within : end ≤ length sorted

-- Rows in the order of their keys, each with its own kind and rank.
pub record AreSorted (kinds ranks : List ℕ) (sorted : List Ranked) : Type 0 where
  pub permutation : IsPermutation (map (ranked_row kinds ranks) (range_with_len 0 (length kinds))) sorted
  pub rises : IsNonDecreasingBy key sorted
  pub few : (row : ℕ) → slice_index ranks row < 2 ^ 32

module _ {kinds ranks : List ℕ} {sorted : List Ranked} (s : AreSorted kinds ranks sorted) where
  -- the number of the row at each place
  abbrev pub numbers : List ℕ
  numbers = map (λ row. row.number) sorted

  same_numbers : (xs : List ℕ) → map (λ (row : Ranked). row.number) (map (ranked_row kinds ranks) xs) ≡ xs
  same_numbers [] = refl
  same_numbers (x ∷ xs) = ap (λ rest. x ∷ rest) (same_numbers xs)

  permutation : IsPermutation (range_with_len 0 (length kinds)) numbers
  permutation =
      subst (λ xs. IsPermutation xs numbers) (same_numbers (range_with_len 0 (length kinds)))
      (IsPermutation-map (λ row. row.number) (map (ranked_row kinds ranks) (range_with_len 0 (length kinds))) sorted
      s.permutation)

  count : length sorted ≡ length kinds
  count = grind (arith, common_steps, length_permutation, length-map-range_with_len)

  -- a row that has its own kind and rank
  abbrev IsOwn : Ranked → Type 0
  IsOwn row = (row.kind ≡ slice_index kinds row.number) × (row.rank ≡ slice_index ranks row.number)

  all_own : (xs : List ℕ) → All IsOwn (map (ranked_row kinds ranks) xs)
  all_own [] = All-nil IsOwn
  all_own (x ∷ xs) =
      All-cons IsOwn (ranked_row kinds ranks x) (map (ranked_row kinds ranks) xs) (refl, refl) (all_own xs)

  module _ (place : ℕ) (d : Ranked) (h : place < length sorted) where
    own : IsOwn (get_or sorted place d)
    own =
        All-get_or IsOwn sorted place d h
        (All-permutation IsOwn (map (ranked_row kinds ranks) (range_with_len 0 (length kinds))) sorted s.permutation
        (all_own (range_with_len 0 (length kinds))))

    number_at : slice_index numbers place ≡ (get_or sorted place d).number
    number_at = get_or-map (λ row. row.number) sorted place d 0 h

    kind_at : slice_index kinds (slice_index numbers place) ≡ (get_or sorted place d).kind
    kind_at = ap (slice_index kinds) number_at ∙ sym own.0

    rank_at : slice_index ranks (slice_index numbers place) ≡ (get_or sorted place d).rank
    rank_at = ap (slice_index ranks) number_at ∙ sym own.1

  kinds_rise : IsNonDecreasingBy (λ row. row.kind) sorted
  kinds_rise x y d low h = omega (arith, s.rises x y d low h, (own y d h).1, s.few (get_or sorted y d).number)

  -- what `partition_point` gives
  pub is_end : (kind end : ℕ) → end ≤ length sorted
      → (IsPartitionedBy (λ row. nat_le row.kind kind) sorted
      → IsPartitionPoint (λ row. nat_le row.kind kind ≡ true) (λ row. nat_le row.kind kind ≡ false) sorted end)
      → IsEnd sorted kind end
  is_end kind end within parted = search (rules, kinds_rise, leb-true, leb-false)

  pub by_kind : (ends : List ℕ) → length ends ≡ 8
      → ((kind : ℕ) → kind < 8 → IsEnd sorted kind (slice_index ends kind)) → AreByKind kinds numbers ends
  by_kind ends eight are = record {
    permutation = permutation;
    count = eight;
    before = λ place kind h b.
        let low : place < length sorted = omega (arith, (are kind h).within) in
        (omega (arith, count), omega (arith, kind_at place none low, (are kind h).before place none b low));
    behind = λ place kind b h past.
        let low : place < length sorted = omega (arith, count) in
        omega (arith, kind_at place none low, (are kind h).behind place none past low);
  }

  pub ranked : AreRanked kinds ranks numbers
  ranked x y low h e =
      let long = length-map sorted (λ row. row.number) in
      let behind : y < length sorted = omega (arith, long) in
      let first = kind_at x none (omega arith) in
      let second = kind_at y none behind in
      let rises = s.rises x y none low behind in
      omega (arith, e, first, second, rank_at x none (omega arith), rank_at y none behind, rises)
