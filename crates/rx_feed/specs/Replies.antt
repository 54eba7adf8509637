-- What the command `feed` replies to an image and the text after it.
use Rattle.std.specs.Prelude.{ℕ, ◌≡◌, ◌+◌, ◌<◌, ◌≤◌, ◌^◌, Bool, true, Some, None, Result, Ok, Err}
use Rattle.std.specs.Prelude.{List, [], ◌∷◌, ◌++◌, length, All}
use Rattle.rx_spec.specs.Queries.{Anchored}
use Rattle.rx_spec.specs.Starts.{StartError, mode_error}
use Rattle.rx_spec.specs.Tables.{Table}
use Rattle.rx_spec.specs.declared.Form.{Form}
use Rattle.rx_dense.specs.Layouts as dense
use Rattle.rx_dense_image.specs.Images as dense_images
use Rattle.rx_sparse.specs.Layouts as sparse
use Rattle.rx_sparse_image.specs.Images as sparse_images
use Rattle.rx_wire.specs.Kinds.{Kind}
use Rattle.rx_stream.specs.Remaining.{told, told_now}
use Rattle.rx_stream.specs.declared.event.StreamEvent.{StreamEvent}
use Rattle.rx_feed.specs.Lines.{IsMatch, lines, match_lines, quit_line, end_line, long_line}
use Rattle.rx_feed.specs.Lines.{unsupported_line, refused_line}

-- the most haystack bytes that are answered, and the most bytes of a piece
abbrev pub most_data : ℕ
most_data = 2 ^ 40

abbrev pub most_of_piece : ℕ
most_of_piece = 4096

-- ---- a text in pieces

-- An event is told of a text, after others, and not before the last piece was read. That piece isn't long.
pub record IsToldLast (t : Table) (mode : Anchored) (haystack : List ℕ) (told : List StreamEvent) (event : StreamEvent)
    : Type 0 where
  pub before : List ℕ
  pub last : List ℕ
  pub joined : haystack ≡ before ++ last
  pub short : length last ≤ most_of_piece
  pub earlier : length (told_now t mode before) ≤ length told
  pub later : List StreamEvent
  pub tells : told_now t mode haystack ≡ told ++ (event ∷ later)

-- What is answered to a text by a table: ended where the text is whole.
pub data StreamReplies (t : Table) (mode : Anchored) (haystack : List ℕ) (ended : Bool) (text : List ℕ) (status : ℕ)
    : Type 0 where
  Unsupported : mode_error t.settings mode ≡ Some (StartError.UnsupportedAnchored mode) → haystack ≡ []
      → text ≡ unsupported_line mode → status ≡ 4 → StreamReplies t mode haystack ended text status
  Ended : mode_error t.settings mode ≡ None → ended ≡ true → length haystack ≤ most_data
      → All IsMatch (told_now t mode haystack)
      → text ≡ lines (told t mode haystack) ++ end_line (length haystack) → status ≡ 0
      → StreamReplies t mode haystack ended text status
  Quit : (matches : List StreamEvent) → (byte offset : ℕ) → mode_error t.settings mode ≡ None
      → length haystack ≤ most_data → All IsMatch matches
      → IsToldLast t mode haystack matches (StreamEvent.Quit byte offset)
      → text ≡ lines matches ++ quit_line byte offset → status ≡ 4 → StreamReplies t mode haystack ended text status
  Long : mode_error t.settings mode ≡ None → most_data < length haystack → length haystack ≤ most_data + most_of_piece
      → text ≡ match_lines (told_now t mode haystack) ++ long_line → status ≡ 2
      → StreamReplies t mode haystack ended text status

-- ---- the image before it

-- the table that an image of a form has, or the first test that it fails
abbrev pub read_table : {L : Type 0} → (L → Table) → Result (L × ℕ) Kind → Result Table Kind
read_table table_of (Ok (layout, len)) = Ok (table_of layout)
read_table table_of (Err kind) = Err kind

abbrev pub table_read : Form → List ℕ → Result Table Kind
table_read Form.Dense image = read_table dense.table_of (dense_images.reads image)
table_read Form.Sparse image = read_table (λ t. sparse.table_of t.layout) (sparse_images.reads image)

-- The bytes that were taken: the image, and the haystack. The image is as long as is said, but where the source ended
-- before.
pub record IsSplit (len : ℕ) (bytes : List ℕ) (ended : Bool) (image haystack : List ℕ) : Type 0 where
  pub joined : bytes ≡ image ++ haystack
  pub few : length image ≤ len
  pub short : length image < len → (ended ≡ true) × (haystack ≡ [])

pub data FeedReplies (form : Form) (mode : Anchored) (len : ℕ) (bytes : List ℕ) (ended : Bool) (text : List ℕ)
    (status : ℕ) : Type 0 where
  Refused : (kind : Kind) → IsSplit len bytes ended bytes [] → table_read form bytes ≡ Err kind
      → text ≡ refused_line kind → status ≡ 1 → FeedReplies form mode len bytes ended text status
  Searched : (image haystack : List ℕ) → (t : Table) → IsSplit len bytes ended image haystack
      → table_read form image ≡ Ok t → StreamReplies t mode haystack ended text status
      → FeedReplies form mode len bytes ended text status

-- ---- a law

-- At most one text and one status answer what was taken.
abbrev pub IsOneAnswer : Type 0
IsOneAnswer = (form : Form) (mode : Anchored) (len : ℕ) (bytes : List ℕ) (ended also : Bool) (text other : List ℕ)
    (status again : ℕ) → FeedReplies form mode len bytes ended text status
    → FeedReplies form mode len bytes also other again → (text ≡ other) × (status ≡ again)
