-- How long the sparse row of a dense one is, by its ranges, the patterns that it tells, and its needles.
use Rattle.rx_spec.proofs.Prelude.{common_steps, ◌≡◌, ◌≢◌, ℕ, zero, suc, ◌+◌, ◌-◌, ◌*◌, ◌<◌, ◌≤◌, Bool, true, false}
use Rattle.rx_spec.proofs.Prelude.{List, [], ◌∷◌, ◌&&◌, filter, length, map, refl, arith, if◌then◌else◌, sum_by}
use Rattle.rx_spec.proofs.Prelude.{range_with_len, length-map, sum_by-cons, Label, IsSound}
use Rattle.rx_spec.specs.Sizes.{patterns_size}
use Rattle.rx_base.specs.ByteClasses.{alphabet_len}
use Rattle.rx_dense.specs.Layouts.{AreRows, Layout, patterns_at, place_in_range, row_count, stride, table_of}
use Rattle.rx_dense.specs.Specials.{is_match_id, is_quit_id}
use Rattle.rx_dense.specs.States.{begins_range, is_live, row_at}
use Rattle.rx_sparse.specs.Rows.{is_some_list, row_len, rows_len}
use Rattle.rx_sparse.specs.Sparse.{patterns_of_id, ranges_of, row_of_dense, sparse_len}
use Rattle.rx_sparse.proofs.DenseRanges.{ranges_few}
use Rattle.rx_sparse_build.proofs.Needles.{needles_few}
use Rattle.rx_sparse_build.proofs.Patterns.{kept, kept_named, named, told}
use Rattle.rx_sparse_build.proofs.PowerRanges.{ids_count}

-- the length of a row's sparse row
abbrev pub len_at : Layout → ℕ → ℕ
len_at l row = row_len (row_of_dense l (row_at l row))

-- all of them together
rows_sum : (l : Layout) (row count : ℕ)
    → rows_len (map (row_of_dense l) (map (row_at l) (range_with_len row count)))
    ≡ sum_by (len_at l) (range_with_len row count)
unfolding rows_len
rows_sum l row zero = refl
rows_sum l row (suc count) =
    omega (
      arith,
      rows_sum l (row + 1) count,
      sum_by-cons (len_at l) row (range_with_len (row + 1) count),
    )

-- the length of a sparse table's rows, as a sum over the rows of the dense one
pub sparse_sum : (l : Layout) → sparse_len l ≡ sum_by (len_at l) (range_with_len 0 (row_count l))
sparse_sum l = grind (arith, common_steps, rows_sum)

-- ---- the parts of one

-- the bytes of a row's patterns, with their number
abbrev list_len : List ℕ → ℕ
list_len ks = if is_some_list ks then 4 + 4 * length ks else 0

-- a match row has patterns, and no other row
list_counted : (matches quits : Bool) (ks : List ℕ) → told matches quits ks ≢ Label.Matches []
    → list_len (kept matches ks) ≡ patterns_size (told matches quits ks)
list_counted true quits [] some = absurd (some refl)
list_counted true quits (k ∷ ks) some = refl
list_counted false true ks some = refl
list_counted false false ks some = refl

-- four for each, and four for their number
list_few : (ks : List ℕ) → list_len ks ≤ 4 + 4 * length ks
list_few [] = omega arith
list_few (k ∷ ks) = omega arith

module _ (l : Layout) (sound : IsSound (table_of l)) (row : ℕ) (h : row < row_count l) where
  abbrev id : ℕ
  id = row * stride l

  -- the patterns that a match row with this id would have
  abbrev lists : List ℕ
  lists = patterns_at l (place_in_range l l.special.min_match id)

  -- what its patterns take is what its label says
  pub patterns_counted : list_len (patterns_of_id l id) ≡ patterns_size ((table_of l).machine.label row)
  patterns_counted =
      list_counted (is_match_id l.special id) (is_quit_id l.special id) lists (sound.is_table.lists row h)

  -- It has a range for each class that begins one.
  pub ranges_are : length (ranges_of (row_at l row).next_ids)
      ≡ length (filter (λ first. begins_range (row_at l row).next_ids first && is_live (row_at l row).next_ids first)
      (range_with_len 0 (length (row_at l row).next_ids - 1)))
  ranges_are = grind (arith, common_steps, length-map)

  -- It has a range for each class at most, three needles at most, and four bytes for each pattern.
  pub len_most : AreRows l
      → len_at l row ≤ 6 * alphabet_len l.classes + 10 + 4 * named ((table_of l).machine.label row)
  len_most rows =
      omega (
        arith,
        ranges_few (row_at l row).next_ids,
        ids_count l rows row h,
        list_few (patterns_of_id l id),
        kept_named (is_match_id l.special id) (is_quit_id l.special id) lists,
        needles_few sound row h,
      )
