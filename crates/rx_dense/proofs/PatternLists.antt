-- Lists of patterns, joined, and where each of them stands.
use Rattle.rx_spec.proofs.Prelude.{common_steps, ◌≡◌, ℕ, zero, suc, ◌+◌, ◌*◌, ◌^◌, ◌<◌, ◌≤◌, List, [], ◌∷◌, ◌++◌}
use Rattle.rx_spec.proofs.Prelude.{length, take, drop, get_or, slice_index, arith, refl, append_assoc, length-append}
use Rattle.rx_spec.proofs.Prelude.{Vec, concat, vec_items, drop_at, length-map, max_id}
use Rattle.std.specs.BTreeMap.{BTreeMap, btree_map_len, values}
use Rattle.rx_dense.specs.Builder.{pattern_lists, slices_from, with_patterns}
use Rattle.rx_dense.specs.Layouts.{Layout, IsShaped, patterns_at}
use Rattle.rx_dense.proofs.Shaped.{rows_kept, starts_kept}

-- a list for each key of a map
pub map_len : {A : Type 0} (lists : BTreeMap ℕ (Vec ℕ A)) → length (pattern_lists lists) ≡ btree_map_len lists
map_len lists = omega (arith, length-map (values lists) vec_items, length-map lists.entries (λ e. e.1))

-- ---- two words for each list

pub length-slices_from : (start : ℕ) (lists : List (List ℕ)) → length (slices_from start lists) ≡ 2 * length lists
length-slices_from start [] = refl
length-slices_from start (list ∷ lists) = omega (arith, length-slices_from (start + length list) lists)

behind_first : (x y : ℕ) (words : List ℕ) (i : ℕ) → slice_index (x ∷ y ∷ words) (2 * suc i) ≡ slice_index words (2 * i)
behind_first x y words i = grind (arith, common_steps)

behind_second : (x y : ℕ) (words : List ℕ) (i : ℕ)
    → slice_index (x ∷ y ∷ words) (2 * suc i + 1) ≡ slice_index words (2 * i + 1)
behind_second x y words i = grind (arith, common_steps)

-- no list ends behind the joined lists
slice_within : (start : ℕ) (lists : List (List ℕ)) (i : ℕ) → i < length lists
    → slice_index (slices_from start lists) (2 * i) + slice_index (slices_from start lists) (2 * i + 1)
    ≤ start + length (concat lists)
slice_within start [] i h = absurd (omega arith)
slice_within start (list ∷ lists) zero h = omega (arith, length-append list (concat lists))
slice_within start (list ∷ lists) (suc i) h =
    omega (
      arith,
      length-append list (concat lists),
      behind_first start (length list) (slices_from (start + length list) lists) i,
      behind_second start (length list) (slices_from (start + length list) lists) i,
      slice_within (start + length list) lists i (omega arith),
    )

-- each list stands where its words say, behind others as well
slice_is : (front : List ℕ) (lists : List (List ℕ)) (i : ℕ) → i < length lists
    → take (slice_index (slices_from (length front) lists) (2 * i + 1))
    (drop (slice_index (slices_from (length front) lists) (2 * i)) (front ++ concat lists)) ≡ get_or lists i []
slice_is front [] i h = absurd (omega arith)
slice_is front (list ∷ lists) zero h = grind (arith, common_steps, drop_at)
slice_is front (list ∷ lists) (suc i) h =
    rw (
      behind_first (length front) (length list) (slices_from (length front + length list) lists) i,
      behind_second (length front) (length list) (slices_from (length front + length list) lists) i,
      ← (length-append front list),
      ← append_assoc front list (concat lists),
    ) (slice_is (front ++ list) lists i (omega arith))

-- ---- a table with these lists

pub patterns_are : (l : Layout) (lists : List (List ℕ)) (i : ℕ) → i < length lists
    → patterns_at (with_patterns l lists) i ≡ get_or lists i []
patterns_are l lists i h = slice_is [] lists i h

pub shaped_patterns : (l : Layout) (lists : List (List ℕ)) → length (concat lists) ≤ max_id
    → length (slices_from 0 lists) < 2 * 2 ^ 32 → IsShaped l → IsShaped (with_patterns l lists)
shaped_patterns l lists few few_rows h =
    record {
      rows = rows_kept l (with_patterns l lists) refl refl refl h.rows;
      starts = starts_kept l (with_patterns l lists) refl (omega arith) refl refl refl h.starts;
      lists = record {
        few_patterns = h.lists.few_patterns;
        pairs = omega (arith, length-slices_from 0 lists);
        few_rows = few_rows;
        few = omega arith;
        within = λ i b.
            omega (arith, slice_within 0 lists i (omega (arith, length-slices_from 0 lists)));
        few_accels = h.lists.few_accels;
      };
    }
