-- Images of a forward and a reverse table of one form: `text` has the bytes of both layouts, `reads` the layouts that
-- bytes spell, or the first test that they fail.
use Rattle.std.specs.Prelude.{◌≡◌, ℕ, ◌-◌, ◌==◌, Bool, true, false, if◌then◌else◌, List, ◌++◌, length, drop, codes}
use Rattle.std.specs.Prelude.{Result, Ok, Err}
use Rattle.std.specs.Int.{w32}
use Rattle.rx_spec.specs.declared.Form.{Form}
use Rattle.rx_wire.specs.declared.order.Order.{Order}
use Rattle.rx_wire.specs.Fields.{field, number_at}
use Rattle.rx_wire.specs.Heads.{endianness_word, label_at, label_text, order_at, version_at}
use Rattle.rx_wire.specs.Kinds.{Kind, ◌>>=◌}
use Rattle.rx_dense.specs.Layouts as dense
use Rattle.rx_dense_image.specs.Heads.{dense_head_at}
use Rattle.rx_dense_image.specs.Images as dense_images
use Rattle.rx_sparse.specs.Layouts as sparse
use Rattle.rx_sparse_image.specs.Images as sparse_images
use Rattle.rx_sparse_image.specs.Tested as sparse_tested

-- ---- what an image holds

-- two tables of one form, the sparse ones with the order of their bytes
pub data Pair : Type 0 where
  Dense : (forward : dense.Layout) → (reverse : dense.Layout) → Pair
  Sparse : (forward : sparse.Stored) → (reverse : sparse.Stored) → Pair

-- both are of as many patterns
abbrev pub HaveSamePatterns : Pair → Type 0
HaveSamePatterns (Pair.Dense f r) = f.pattern_len ≡ r.pattern_len
HaveSamePatterns (Pair.Sparse f r) = f.layout.pattern_len ≡ r.layout.pattern_len

-- both can be written and read again
abbrev pub AreWhole : Pair → Type 0
AreWhole (Pair.Dense f r) = dense_images.IsWhole f × dense_images.IsWhole r
AreWhole (Pair.Sparse f r) = sparse_tested.IsWhole f.layout × sparse_tested.IsWhole r.layout

-- the same with the bytes of sparse tables in an order
abbrev pub in_order : Order → Pair → Pair
in_order order (Pair.Dense f r) = Pair.Dense f r
in_order order (Pair.Sparse f r) = Pair.Sparse (record f { order = order }) (record r { order = order })

-- ---- writing

abbrev pub pair_label : List ℕ
pair_label = codes "rust-regex-automata-pair"

abbrev pub pair_version : ℕ
pair_version = 3

abbrev pub form_number : Form → ℕ
form_number Form.Dense = 0
form_number Form.Sparse = 1

abbrev pub head_text : Order → Form → List ℕ
head_text order form =
    label_text pair_label
    ++ (field order w32 endianness_word
    ++ (field order w32 pair_version ++ field order w32 (form_number form)))

-- the head, and then the images of both tables, all in one order
unfoldable pub text : Order → Pair → List ℕ
text order (Pair.Dense f r) =
    head_text order Form.Dense ++ (dense_images.text order f ++ dense_images.text order r)
text order (Pair.Sparse f r) =
    head_text order Form.Sparse ++ (sparse_images.text order f.layout ++ sparse_images.text order r.layout)

-- ---- reading

abbrev pub form_of : ℕ → Result Form Kind
form_of n = if n == 0 then Ok Form.Dense else (if n == 1 then Ok Form.Sparse else Err Kind.Generic)

-- the order and the form of both tables
unfoldable pub head_at : List ℕ → Result ((Order × Form) × List ℕ) Kind
head_at bytes = do
  label ← label_at pair_label bytes
  order ← order_at label.1
  version ← version_at pair_version order.0 order.1
  number ← number_at order.0 w32 version.1
  form ← form_of number.0
  Ok ((order.0, form), number.1)

abbrev pub is_same_order : Order → Order → Bool
is_same_order Order.Little Order.Little = true
is_same_order Order.Big Order.Big = true
is_same_order _ _ = false

-- A table in the order of the pair, and the bytes after its image.
unfoldable pub dense_at : Order → List ℕ → Result (dense.Layout × List ℕ) Kind
dense_at order bytes = do
  table ← dense_images.reads bytes
  head ← dense_head_at bytes
  if is_same_order head.0.1 order then Ok (table.0, drop table.1 bytes) else Err Kind.Generic

unfoldable pub sparse_at : Order → List ℕ → Result (sparse.Stored × List ℕ) Kind
sparse_at order bytes = do
  table ← sparse_images.reads bytes
  if is_same_order table.0.order order then Ok (table.0, drop table.1 bytes) else Err Kind.Generic

-- both tables, and the bytes after them
unfoldable pub dense_pair_at : Order → List ℕ → Result (Pair × List ℕ) Kind
dense_pair_at order bytes = do
  forward ← dense_at order bytes
  reverse ← dense_at order forward.1
  if forward.0.pattern_len == reverse.0.pattern_len
      then Ok (Pair.Dense forward.0 reverse.0, reverse.1) else Err Kind.Generic

unfoldable pub sparse_pair_at : Order → List ℕ → Result (Pair × List ℕ) Kind
sparse_pair_at order bytes = do
  forward ← sparse_at order bytes
  reverse ← sparse_at order forward.1
  if forward.0.layout.pattern_len == reverse.0.layout.pattern_len
      then Ok (Pair.Sparse forward.0 reverse.0, reverse.1) else Err Kind.Generic

abbrev pub pair_at : Order → Form → List ℕ → Result (Pair × List ℕ) Kind
pair_at order Form.Dense bytes = dense_pair_at order bytes
pair_at order Form.Sparse bytes = sparse_pair_at order bytes

-- The pair, and how many bytes its image takes.
unfoldable pub reads : List ℕ → Result (Pair × ℕ) Kind
reads bytes = do
  head ← head_at bytes
  pair ← pair_at head.0.0 head.0.1 head.1
  Ok (pair.0, length bytes - length pair.1)
