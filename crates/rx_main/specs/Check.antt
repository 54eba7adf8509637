-- What the command `check` replies to some bytes: whether they begin with an image, or which test they fail first.
use Rattle.std.specs.Prelude.{ℕ, ◌≡◌, List, ◌++◌, codes, Result, Ok, Err}
use Rattle.std.specs.Fmt.{decimal}
use Rattle.rx_spec.specs.declared.Form.{Form}
use Rattle.rx_dense.specs.Layouts as dense
use Rattle.rx_dense_image.specs.Images as dense_images
use Rattle.rx_sparse.specs.Layouts as sparse
use Rattle.rx_sparse_image.specs.Images as sparse_images
use Rattle.rx_image.specs.Pairs as pairs
use Rattle.rx_image.specs.Pairs.{Pair}
use Rattle.rx_wire.specs.Kinds.{Kind}
use Rattle.rx_transfer.specs.Words.{newline, test_name}
use Rattle.rx_main.specs.Lines.{Reply}

-- the test that an image fails
abbrev pub failed_test_reply : Kind → Reply
failed_test_reply kind = record { text = codes "refused " ++ (test_name kind ++ newline); status = 1 }

-- how many rows and patterns a table has, and how many bytes its image takes
abbrev pub accepted_line : ℕ → ℕ → ℕ → List ℕ
accepted_line rows patterns size =
    codes "ok " ++ (decimal rows ++ (codes " " ++ (decimal patterns ++ (codes " " ++ (decimal size ++ newline)))))

abbrev pub accepted_reply : ℕ → ℕ → ℕ → Reply
accepted_reply rows patterns size = record { text = accepted_line rows patterns size; status = 0 }

-- the rows of the forward and of the reverse table, the patterns, and the bytes of the image of both
abbrev pub accepted_pair_line : ℕ → ℕ → ℕ → ℕ → List ℕ
accepted_pair_line forward reverse patterns size = codes "ok " ++ (decimal forward
    ++ (codes " " ++ (decimal reverse ++
    (codes " " ++ (decimal patterns ++ (codes " " ++ (decimal size ++ newline)))))))

abbrev pub accepted_pair_reply : ℕ → ℕ → ℕ → ℕ → Reply
accepted_pair_reply forward reverse patterns size =
    record { text = accepted_pair_line forward reverse patterns size; status = 0 }

-- what is told of reading, by what is told of what was read and of how many bytes that takes
abbrev pub reading_reply : {T : Type 0} → (T → ℕ → Reply) → Result (T × ℕ) Kind → Reply
reading_reply accepted (Ok (read, size)) = accepted read size
reading_reply accepted (Err kind) = failed_test_reply kind

-- bytes as an image of a table
abbrev pub dense_reply : dense.Layout → ℕ → Reply
dense_reply l size = accepted_reply (dense.row_count l) l.pattern_len size

abbrev pub sparse_reply : sparse.Stored → ℕ → Reply
sparse_reply t size = accepted_reply (sparse.row_count t.layout) t.layout.pattern_len size

abbrev pub check_reply : Form → List ℕ → Reply
check_reply Form.Dense bytes = reading_reply dense_reply (dense_images.reads bytes)
check_reply Form.Sparse bytes = reading_reply sparse_reply (sparse_images.reads bytes)

abbrev pub CheckReplies : Form → List ℕ → Reply → Type 0
CheckReplies form bytes reply = reply ≡ check_reply form bytes

-- bytes as an image of a pair
abbrev pub pair_rows_reply : Pair → ℕ → Reply
pair_rows_reply (Pair.Dense f r) size =
    accepted_pair_reply (dense.row_count f) (dense.row_count r) f.pattern_len size
pair_rows_reply (Pair.Sparse f r) size =
    accepted_pair_reply (sparse.row_count f.layout) (sparse.row_count r.layout) f.layout.pattern_len size

abbrev pub CheckPairReplies : List ℕ → Reply → Type 0
CheckPairReplies bytes reply = reply ≡ reading_reply pair_rows_reply (pairs.reads bytes)
