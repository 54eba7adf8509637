-- An image of a pair is read again, in either order, whatever follows, and its length is told.
use Rattle.rx_spec.proofs.Prelude.{◌≡◌, ℕ, ◌+◌, ◌-◌, ◌^◌, ◌<◌, ◌==◌, true, List, ◌++◌, length, Ok, refl, ap, ◌∙◌}
use Rattle.rx_spec.proofs.Prelude.{append_assoc, arith, rules, eq-eqb, drop_at, length-append, w32}
use Rattle.rx_spec.specs.declared.Form.{Form}
use Rattle.rx_wire.specs.declared.order.Order.{Order}
use Rattle.rx_wire.specs.Fields.{field}
use Rattle.rx_wire.specs.Heads.{IsLabel, endianness_word, label_text}
use Rattle.rx_wire.specs.Kinds.{Reads}
use Rattle.rx_wire.proofs.Fields.{u32_again}
use Rattle.rx_wire.proofs.Heads.{label_again, order_again, version_again}
use Rattle.rx_dense.specs.Layouts as dense
use Rattle.rx_image_parts.specs.Heads.{head_text as dense_head_text}
use Rattle.rx_dense_image.specs.Heads.{dense_head_at, dense_label}
use Rattle.rx_dense_image.specs.Images as dense_images
use Rattle.rx_dense_image.specs.Images.{start_table_of, pattern_lists_of, marks_of}
use Rattle.rx_dense_image.specs.Rows.{rows_of, rows_text}
use Rattle.rx_image_parts.specs.StartTables.{start_table_text}
use Rattle.rx_dense_image.specs.PatternLists.{pattern_lists_text}
use Rattle.rx_dense_image.specs.Marks.{marks_text}
use Rattle.rx_dense_image.proofs.ReadAgain.{dense_head_again}
use Rattle.rx_dense_image.proofs.WholeAgain.{whole_again}
use Rattle.rx_sparse.specs.Layouts as sparse
use Rattle.rx_sparse_image.specs.Images as sparse_images
use Rattle.rx_sparse_image.specs.Tested as sparse_tested
use Rattle.rx_sparse_image.proofs.WholeAgain.{whole_again as sparse_whole_again}
use Rattle.rx_image.specs.Pairs.{AreWhole, HaveSamePatterns, Pair, dense_at, dense_pair_at, form_number, form_of}
use Rattle.rx_image.specs.Pairs.{head_at, head_text, in_order, is_same_order, pair_at, pair_label, pair_version, reads}
use Rattle.rx_image.specs.Pairs.{sparse_at, sparse_pair_at, text}

is_label : IsLabel pair_label
is_label = record { short = omega arith; text = search rules }

same_len : {m n : ℕ} → m ≡ n → (m == n) ≡ true
same_len {m} {n} e = eq-eqb m n e

form_small : (form : Form) → form_number form < 2 ^ 32
form_small Form.Dense = omega arith
form_small Form.Sparse = omega arith

form_again : (form : Form) → form_of (form_number form) ≡ Ok form
form_again Form.Dense = refl
form_again Form.Sparse = refl

head_again : (order : Order) (form : Form) → Reads head_at (head_text order form) (order, form)
unfolding head_at
head_again order form rest =
    let t3 : List ℕ = field order w32 (form_number form) ++ rest in
    let t1 : List ℕ = field order w32 endianness_word ++ (field order w32 pair_version ++ t3) in
    let all : head_text order form ++ rest ≡ label_text pair_label ++ t1 = simp append_assoc refl in
    ap head_at all
    ∙ rw (
      label_again pair_label is_label t1,
      order_again order (field order w32 pair_version ++ t3),
      version_again pair_version order (omega arith) t3,
      u32_again order (form_number form) (form_small form) rest,
      form_again form,
    )
    refl

same_order : (order : Order) → is_same_order order order ≡ true
same_order Order.Little = refl
same_order Order.Big = refl

-- ---- dense tables

-- the head of a table tells the order of its image
dense_head : (order : Order) (l : dense.Layout) (rest : List ℕ)
    → (after : List ℕ) × (dense_head_at (dense_images.text order l ++ rest) ≡ Ok ((l.flags, order), after))
unfolding dense_images.text
dense_head order l rest =
    let parts : List ℕ = rows_text order (rows_of l)
    ++ (start_table_text order (start_table_of l)
    ++ (pattern_lists_text order (pattern_lists_of l) ++ marks_text order (marks_of l))) in (
      parts ++ rest,
      ap dense_head_at (append_assoc (dense_head_text order dense_label l.flags) parts rest)
          ∙ dense_head_again order l.flags (parts ++ rest),
    )

dense_again : (order : Order) (l : dense.Layout) → dense_images.IsWhole l
    → Reads (dense_at order) (dense_images.text order l) l
unfolding dense_at
dense_again order l whole rest =
    let bytes : List ℕ = dense_images.text order l in
    let head = dense_head order l rest in
    rw (whole_again order l whole rest, head.1, same_order order, drop_at bytes rest (length bytes) refl) refl

dense_pair_again : (order : Order) (f r : dense.Layout) → AreWhole (Pair.Dense f r)
    → HaveSamePatterns (Pair.Dense f r)
    → Reads (dense_pair_at order) (dense_images.text order f ++ dense_images.text order r) (Pair.Dense f r)
unfolding dense_pair_at
dense_pair_again order f r whole same rest =
    let second : List ℕ = dense_images.text order r ++ rest in
    ap (dense_pair_at order) (append_assoc (dense_images.text order f) (dense_images.text order r) rest)
    ∙ rw (dense_again order f whole.0 second, dense_again order r whole.1 rest, same_len same) refl

-- ---- sparse tables

sparse_again : (order : Order) (t : sparse.Stored) → sparse_tested.IsWhole t.layout
    → Reads (sparse_at order) (sparse_images.text order t.layout) (record t { order = order })
unfolding sparse_at
sparse_again order t whole rest =
    rw (
      sparse_whole_again order t.layout whole rest,
      same_order order,
      drop_at (sparse_images.text order t.layout) rest (length (sparse_images.text order t.layout)) refl,
    )
    refl

sparse_pair_again : (order : Order) (f r : sparse.Stored) → AreWhole (Pair.Sparse f r)
    → HaveSamePatterns (Pair.Sparse f r)
    → Reads (sparse_pair_at order) (sparse_images.text order f.layout ++ sparse_images.text order r.layout)
    (in_order order (Pair.Sparse f r))
unfolding sparse_pair_at
sparse_pair_again order f r whole same rest =
    let second : List ℕ = sparse_images.text order r.layout ++ rest in
    ap (sparse_pair_at order)
    (append_assoc (sparse_images.text order f.layout) (sparse_images.text order r.layout) rest)
    ∙ rw (sparse_again order f whole.0 second, sparse_again order r whole.1 rest, same_len same) refl

-- ---- the pair

-- a head and then what stands behind it
whole_pair : (order : Order) (form : Form) (tables : List ℕ) (p : Pair) (rest : List ℕ)
    → Reads (pair_at order form) tables p
    → reads ((head_text order form ++ tables) ++ rest) ≡ Ok (p, length (head_text order form ++ tables))
unfolding reads
whole_pair order form tables p rest read =
    let all : List ℕ = head_text order form ++ tables in
    let size : length (all ++ rest) - length rest ≡ length all =
    omega (arith, length-append all rest) in
    let head : head_at (all ++ rest) ≡ Ok ((order, form), tables ++ rest) =
    ap head_at (append_assoc (head_text order form) tables rest) ∙ head_again order form (tables ++ rest) in
    rw (head, read rest, size) refl

pub pair_again : (order : Order) (p : Pair) → AreWhole p → HaveSamePatterns p → (rest : List ℕ)
    → reads (text order p ++ rest) ≡ Ok (in_order order p, length (text order p))
unfolding text
pair_again order (Pair.Dense f r) whole same rest =
    whole_pair order Form.Dense (dense_images.text order f ++ dense_images.text order r) (Pair.Dense f r) rest
    (dense_pair_again order f r whole same)
pair_again order (Pair.Sparse f r) whole same rest =
    whole_pair order Form.Sparse (sparse_images.text order f.layout ++ sparse_images.text order r.layout)
    (in_order order (Pair.Sparse f r)) rest (sparse_pair_again order f r whole same)
