-- The ranges of a row of a dense table, as they are read one by one.
use Rattle.rx_spec.proofs.Prelude.{common_steps, flat_map-append, ◌≡◌, ℕ, ◌-◌, Bool, true, false, cond, List, [], ◌∷◌}
use Rattle.rx_spec.proofs.Prelude.{◌++◌, length, map, slice_index, refl, ap, sym, ◌∙◌, arith, append_assoc, flat_map}
use Rattle.rx_spec.proofs.Prelude.{eqb-true, nat_tests, append-nil}
use Rattle.rx_spec.specs.declared.Unit.{Unit as U}
use Rattle.rx_dense.specs.States.{is_live, sparse_transitions_from}
use Rattle.rx_dense.specs.States as dense
use Rattle.rx_sparse.specs.declared.ranges.ClassRange.{ClassRange}
use Rattle.rx_sparse.specs.Reading.{class_of}
use Rattle.rx_sparse.specs.Sparse.{range_of, ranges_of}

-- what an item adds to the ranges, and where the end mark leads behind it
abbrev ranges_by : U → U → ℕ → List ClassRange
ranges_by (U.Byte first) last next = record { first = first; last = class_of last; next = next } ∷ []
ranges_by U.Eoi last next = []

abbrev eoi_by : U → (next before : ℕ) → ℕ
eoi_by (U.Byte first) next before = before
eoi_by U.Eoi next before = next

abbrev ranges_in : List (U × U × ℕ) → List ClassRange
ranges_in items = flat_map (λ x. ranges_by x.0 x.1 x.2) items

abbrev eoi_after : ℕ → List (U × U × ℕ) → ℕ
eoi_after eoi [] = eoi
eoi_after eoi (x ∷ xs) = eoi_after (eoi_by x.0 x.2 eoi) xs

-- some ranges were read, and some items are left
pub record AreRead (next_ids : List ℕ) (ranges : List ClassRange) (eoi : ℕ) (left : List (U × U × ℕ)) : Type 0 where
  pub ranges_are : ranges ++ ranges_in left ≡ ranges_of next_ids
  pub eoi_is : eoi_after eoi left ≡ slice_index next_ids (length next_ids - 1)

pub read_byte : {next_ids : List ℕ} {ranges more : List ClassRange} {eoi : ℕ} {left rest : List (U × U × ℕ)}
    {first last : U} {next class end : ℕ} → AreRead next_ids ranges eoi left → left ≡ (first, last, next) ∷ rest
    → first ≡ U.Byte class → end ≡ class_of last
    → more ≡ ranges ++ record { first = class; last = end; next = next } ∷ []
    → AreRead next_ids more eoi rest
read_byte {next_ids} {ranges} {more} {eoi} {left} {rest} {first} {last} {next} {class} {end} are e byte end_is more_is =
    grind (arith, common_steps, append_assoc)

pub read_eoi : {next_ids : List ℕ} {ranges : List ClassRange} {eoi : ℕ} {left rest : List (U × U × ℕ)}
    {first last : U} {next : ℕ} → AreRead next_ids ranges eoi left → left ≡ (first, last, next) ∷ rest
    → first ≡ U.Eoi → AreRead next_ids ranges next rest
read_eoi {next_ids} {ranges} {eoi} {left} {rest} {first} {last} {next} are e mark = grind (arith, common_steps)

pub all_read : {next_ids : List ℕ} {ranges : List ClassRange} {eoi : ℕ} {left : List (U × U × ℕ)}
    → AreRead next_ids ranges eoi left → left ≡ [] → ranges ≡ ranges_of next_ids
all_read {next_ids} {ranges} are e = grind (arith, common_steps, append-nil)

pub eoi_read : {next_ids : List ℕ} {ranges : List ClassRange} {eoi : ℕ} {left : List (U × U × ℕ)}
    → AreRead next_ids ranges eoi left → left ≡ [] → eoi ≡ slice_index next_ids (length next_ids - 1)
eoi_read {next_ids} {ranges} {eoi} are e = ap (eoi_after eoi) (sym e) ∙ are.eoi_is

-- ---- all items

module _ (next_ids : List ℕ) where
  abbrev eoi : ℕ
  eoi = length next_ids - 1

  in_ranges : (firsts : List ℕ) → ranges_in (map (dense.range_of next_ids) firsts) ≡ map (range_of next_ids) firsts
  in_ranges [] = refl
  in_ranges (first ∷ firsts) = ap (λ rs. range_of next_ids first ∷ rs) (in_ranges firsts)

  abbrev mark : Bool → List (U × U × ℕ)
  mark live = cond live ((U.Eoi, U.Eoi, slice_index next_ids eoi) ∷ []) []

  no_ranges : (live : Bool) → ranges_in (mark live) ≡ []
  no_ranges true = refl
  no_ranges false = refl

  marked : (live : Bool) → is_live next_ids eoi ≡ live → eoi_after 0 (mark live) ≡ slice_index next_ids eoi
  marked true e = refl
  marked false e = grind (arith, common_steps, eqb-true)

  passed : (e : ℕ) (firsts : List ℕ) (rest : List (U × U × ℕ))
      → eoi_after e (map (dense.range_of next_ids) firsts ++ rest) ≡ eoi_after e rest
  passed e [] rest = refl
  passed e (first ∷ firsts) rest = passed e firsts rest

  pub read_first : AreRead next_ids [] 0 (sparse_transitions_from next_ids 0)
  read_first = grind (arith, common_steps, flat_map-append, nat_tests, no_ranges, append-nil, in_ranges, passed, marked)
