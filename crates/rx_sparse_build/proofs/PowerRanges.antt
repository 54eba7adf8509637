-- A row of a dense table that is a powerset machine has as many ranges as its node.
use Rattle.rx_spec.proofs.Prelude.{common_steps, ◌≡◌, ℕ, ◌+◌, ◌-◌, ◌*◌, ◌/◌, ◌<◌, ◌==◌, ◌&&◌, Bool, List, length, map}
use Rattle.rx_spec.proofs.Prelude.{filter, slice_index, drop, ap, sym, ◌∙◌, arith, length-drop, length-take-le}
use Rattle.rx_spec.proofs.Prelude.{range_with_len, zero-div, cases_eq, eq-eqb, ne_eqb, get_or-drop, get_or-map}
use Rattle.rx_spec.proofs.Prelude.{get_or-take, length-map, fill_by_all, get_or-map-range_with_len, Build, Node, dead}
use Rattle.rx_spec.proofs.Prelude.{next_node, class_by, ends_class, representatives, IsPower, node_at, runs_after}
use Rattle.rx_spec.proofs.Prelude.{State}
use Rattle.rx_spec.specs.Sizes.{range_count}
use Rattle.rx_lemmas.proofs.ClassNumbers.{representative_below, representative_class, representatives_counted}
use Rattle.rx_base.specs.ByteClasses.{alphabet_len}
use Rattle.rx_dense.specs.Layouts.{AreRows, IsRowId, Layout, column, row_count, stride, table_of}
use Rattle.rx_dense.specs.States.{begins_range, is_live, row_at}
use Rattle.rx_dense.proofs.Rows.{quotient, row-below}
use Rattle.rx_dense.proofs.States.{row_within}
use Rattle.rx_sparse_build.proofs.PowerRows.{dead_is, same_rows}
use Rattle.rx_sparse_build.proofs.Runs.{AreSameRuns, runs_counted}

-- ---- numbers that are multiples

-- two tests agree where what they test does
same_tests : (u v x y : ℕ) → (u ≡ v → x ≡ y) → (x ≡ y → u ≡ v) → (u == v) ≡ (x == y)
same_tests u v x y there back = grind (arith, common_steps, eq-eqb, ne_eqb, cases_eq)

-- ids are those of one row exactly where they are one
module _ (l : Layout) (x y : ℕ) (is_x : IsRowId l x) (is_y : IsRowId l y) where
  same_id : (x / stride l == y / stride l) ≡ (x == y)
  same_id = grind (arith, common_steps, same_tests, quotient)

-- and that of dead is 0
zero_same : (l : Layout) (x : ℕ) → IsRowId l x → (x / stride l == 0) ≡ (x == 0)
zero_same l x is = grind (arith, common_steps, same_tests, quotient, zero-div)

-- ---- the next ids of a row

module _ (l : Layout) (rows : AreRows l) (row : ℕ) (h : row < row_count l) where
  abbrev next_ids : List ℕ
  next_ids = (row_at l row).next_ids

  abbrev id_at : ℕ → ℕ
  id_at c = slice_index next_ids c

  -- one for each column
  pub ids_count : length next_ids ≡ alphabet_len l.classes
  ids_count =
      length-take-le (alphabet_len l.classes) (drop (row * stride l) l.words)
      (omega (arith, length-drop (row * stride l) l.words, row_within l row h rows))

  -- each as it stands among the words
  word_at : (c : ℕ) → c < alphabet_len l.classes → id_at c ≡ slice_index l.words (row * stride l + c)
  word_at c low = grind (arith, common_steps, get_or-take, get_or-drop)

  -- and each is the id of a row
  id_is : (c : ℕ) → c < alphabet_len l.classes → IsRowId l (id_at c)
  id_is c low = rw (word_at c low) (rows.next_ids (row * stride l + c) (omega (arith, row_within l row h rows)))

-- ---- its ranges

-- the classes of a build
abbrev classes_by : Build → Bool → List ℕ
classes_by b byte_classes = map (class_by (ends_class b.nfa b.quit byte_classes)) (range_with_len 0 256)

-- the least bytes of a build's classes
abbrev least : Build → Bool → List ℕ
least b byte_classes = representatives (ends_class b.nfa b.quit byte_classes)

module _ (b : Build) (byte_classes : Bool) (l : Layout) (classes : l.classes ≡ classes_by b byte_classes) where
  -- the class of a byte
  pub class_is : (byte : ℕ) → byte < 256
      → slice_index l.classes byte ≡ class_by (ends_class b.nfa b.quit byte_classes) byte
  class_is byte h =
      ap (λ (xs : List ℕ). slice_index xs byte) classes
      ∙ get_or-map-range_with_len (class_by (ends_class b.nfa b.quit byte_classes)) 0 256 byte byte 0 h (omega arith)

  -- the class of the least byte of a class
  column_is : (c : ℕ) → c < length (least b byte_classes) → column l (slice_index (least b byte_classes) c) ≡ c
  column_is c h = grind (arith, common_steps, representative_below, ne_eqb, class_is, representative_class)

-- the node of the row to which a class leads
abbrev node_of : List State → Layout → List ℕ → ℕ → Node
node_of states l ids c = node_at states (slice_index ids c / stride l)

module _ {l : Layout} (rows : AreRows l) {b : Build} (p : IsPower (table_of l) b) (row : ℕ)
    (h : row < row_count l) where
  abbrev ids : List ℕ
  ids = (row_at l row).next_ids

  within : (c : ℕ) → c < length ids - 1 → c < alphabet_len l.classes
  within c low = omega (arith, ids_count l rows row h)

  there : (c : ℕ) → c < length ids - 1 → slice_index ids c / stride l < row_count l
  there c low = row-below l (slice_index ids c) (id_is l rows row h c (within c low))

  -- ids of next rows are the same exactly where their nodes are
  same_runs : AreSameRuns (λ c. slice_index ids c) (node_of p.states l ids) (length ids - 1)
  same_runs = record {
    deads = λ c low.
        dead_is p (slice_index ids c / stride l) (there c low)
        ∙ zero_same l (slice_index ids c) (id_is l rows row h c (within c low));
    sames = λ c low.
        let first : c < length ids - 1 = omega arith in
        same_rows p _ _ (there c first) (there (c + 1) low)
        ∙ same_id l _ _ (id_is l rows row h c (within c first)) (id_is l rows row h (c + 1) (within (c + 1) low));
  }

  module _ (byte_classes : Bool) (classes : l.classes ≡ classes_by b byte_classes) where
    -- there are as many classes as columns before the last
    last : length (least b byte_classes) ≡ length ids - 1
    last =
        omega (
          arith,
          ids_count l rows row h,
          representatives_counted (ends_class b.nfa b.quit byte_classes),
          class_is b byte_classes l classes 255 (omega arith),
        )

    -- the node on the least byte of a class is that of the row to which the class leads
    leads : (c : ℕ) → c < length ids - 1
        → next_node b (node_at p.states row) (slice_index (least b byte_classes) c) ≡ node_of p.states l ids c
    leads c low =
        let byte : ℕ = slice_index (least b byte_classes) c in
        let kept : c < length (least b byte_classes) = omega (arith, last) in
        let small : byte < 257 =
        omega (arith, representative_below (ends_class b.nfa b.quit byte_classes) c kept) in
        sym (p.nexts row byte h small)
        ∙ ap (λ n. node_at p.states (slice_index l.words (row * stride l + n) / stride l))
        (column_is b byte_classes l classes c kept)
        ∙ ap (λ n. node_at p.states (n / stride l)) (sym (word_at l rows row h c (within c low)))

    -- as many ranges begin in the row as runs of nodes
    pub ranges_counted
        : length (filter (λ first. begins_range ids first && is_live ids first) (range_with_len 0 (length ids - 1)))
        ≡ range_count b byte_classes (node_at p.states row)
    ranges_counted =
        let next : ℕ → Node = λ byte. next_node b (node_at p.states row) byte in
        let nodes : map next (least b byte_classes) ≡ map (node_of p.states l ids) (range_with_len 0 (length ids - 1)) =
        fill_by_all (node_of p.states l ids) (map next (least b byte_classes)) (length ids - 1) dead
        (length-map (least b byte_classes) next ∙ last)
        (λ c low. get_or-map next (least b byte_classes) c 0 dead (omega (arith, last)) ∙ leads c low) in
        runs_counted (λ c. slice_index ids c) (node_of p.states l ids) (length ids - 1) same_runs
        ∙ ap (runs_after dead) (sym nodes)
