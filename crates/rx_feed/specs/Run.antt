-- What a run of the command `feed` has read and written, for each way in which it ends (`FeedEnds`).
use Rattle.std.specs.Prelude.{ℕ, ◌≡◌, ◌≢◌, ◌<◌, ◌≤◌, ◌+◌, ◌⊎◌, Bool, true, false, None, Result, Ok, Err}
use Rattle.std.specs.Prelude.{List, [], ◌++◌, length, All}
use Rattle.std.specs.Io.KnownBytes.{Consumes, Keeps, IsAtEnd, Appends}
use Rattle.rx_spec.specs.Queries.{Anchored}
use Rattle.rx_spec.specs.Starts.{mode_error}
use Rattle.rx_spec.specs.Tables.{Table}
use Rattle.rx_spec.specs.declared.Form.{Form}
use Rattle.rx_stream.specs.Remaining.{told_now}
use Rattle.rx_stream.specs.declared.event.StreamEvent.{StreamEvent}
use Rattle.rx_wire.specs.Kinds.{Kind}
use Rattle.rx_feed.specs.Lines.{IsMatch, event_line, lines, match_lines, refused_line}
use Rattle.rx_transfer.specs.Outside.{AppendsFront, Ends}
use Rattle.rx_feed.specs.Outside.{AppendsThenFront, Writes, Written}
use Rattle.rx_feed.specs.Replies.{StreamReplies, FeedReplies, IsSplit, IsToldLast, most_data, most_of_piece, table_read}
use Rattle.rx_feed.specs.declared.fault.Fault.{Fault}

abbrev pub written_by : Ends → Written
written_by ends = record { before = ends.written_before; after = ends.written_after }

-- bytes were taken, to the end of the source or not
pub record Takes (ends : Ends) (bytes : List ℕ) (ended : Bool) : Type 0 where
  pub taken : Consumes ends.left_before ends.left_after bytes
  pub at_end : ended ≡ true → IsAtEnd ends.left_after

-- ---- texts in pieces. Where the source had ended before, all of the text is there, and empty.

pub record TakesText (over : Bool) (ends : Ends) (haystack : List ℕ) (ended : Bool) : Type 0 where
  pub takes : Takes ends haystack ended
  pub short : over ≡ true → (ended ≡ true) × (haystack ≡ [])

-- The text is answered.
pub record StreamAnswers (t : Table) (mode : Anchored) (over : Bool) (ends : Ends) (status : ℕ) : Type 0 where
  pub haystack : List ℕ
  pub ended : Bool
  pub takes : TakesText over ends haystack ended
  pub text : List ℕ
  pub replies : StreamReplies t mode haystack ended text status
  pub written : Appends ends.written_before ends.written_after text

-- The source failed: the lines of all that the bytes tell are written.
pub record IsCut (t : Table) (mode : Anchored) (written : Written) (haystack : List ℕ) : Type 0 where
  pub supported : mode_error t.settings mode ≡ None
  pub few : length haystack ≤ most_data
  pub matches : All IsMatch (told_now t mode haystack)
  pub lines : Appends written.before written.after (lines (told_now t mode haystack))

pub record StreamCut (t : Table) (mode : Anchored) (over : Bool) (ends : Ends) : Type 0 where
  pub haystack : List ℕ
  pub taken : Consumes ends.left_before ends.left_after haystack
  pub goes_on : over ≡ false
  pub cut : IsCut t mode (written_by ends) haystack

-- The sink failed at the line of a match that the last piece told: the lines before it are written, and a front of it.
pub record BreaksAtEvent (t : Table) (mode : Anchored) (written : Written) (haystack : List ℕ) : Type 0 where
  pub supported : mode_error t.settings mode ≡ None
  pub few : length haystack ≤ most_data + most_of_piece
  pub told : List StreamEvent
  pub event : StreamEvent
  pub is_match : IsMatch event
  pub last : IsToldLast t mode haystack told event
  pub lines : AppendsThenFront written.before written.after (lines told) (event_line event)

-- The sink failed, at such a line or at a line of what is answered behind the lines of all such matches.
pub data StreamBreaks (t : Table) (mode : Anchored) (over : Bool) (ends : Ends) : Type 0 where
  InReply : (haystack : List ℕ) → (ended : Bool) → (last : List ℕ) → (status : ℕ) → TakesText over ends haystack ended
      → StreamReplies t mode haystack ended (match_lines (told_now t mode haystack) ++ last) status
      → AppendsThenFront ends.written_before ends.written_after (match_lines (told_now t mode haystack)) last
      → StreamBreaks t mode over ends
  AtEvent : (haystack : List ℕ) → Consumes ends.left_before ends.left_after haystack → over ≡ false
      → BreaksAtEvent t mode (written_by ends) haystack → StreamBreaks t mode over ends

abbrev pub StreamEnds : Table → Anchored → Bool → Ends → Result ℕ Fault → Type 0
StreamEnds t mode over ends (Ok status) = StreamAnswers t mode over ends status
StreamEnds t mode over ends (Err Fault.Source) = StreamCut t mode over ends
StreamEnds t mode over ends (Err Fault.Sink) = StreamBreaks t mode over ends
StreamEnds t mode over ends (Err Fault.Memory) = ⊥

-- ---- the command

-- A test that the image fails is answered. Want of memory is none.
abbrev pub Refuses : Kind → Written → Result ℕ Fault → Type 0
Refuses kind written result =
    ((kind ≡ Kind.Memory) × (result ≡ Err Fault.Memory) × Keeps written.before written.after)
    ⊎ ((kind ≢ Kind.Memory) × Writes written.before written.after (refused_line kind) 1 result)

-- What a run leaves once the image was read: its table answers the text, or the test that it fails is told.
abbrev pub ReadEnds : {A : Type 0} → (A → Table) → Anchored → Bool → Ends → Result (A × ℕ) Kind → Result ℕ Fault
    → Type 0
ReadEnds table mode over ends (Ok (x, len)) result = StreamEnds (table x) mode over ends result
ReadEnds table mode over ends (Err kind) result =
    Refuses kind (written_by ends) result × (ends.left_after ≡ ends.left_before)

pub record FeedAnswers (form : Form) (mode : Anchored) (len : ℕ) (ends : Ends) (status : ℕ) : Type 0 where
  pub bytes : List ℕ
  pub ended : Bool
  pub takes : Takes ends bytes ended
  pub text : List ℕ
  pub replies : FeedReplies form mode len bytes ended text status
  pub written : Appends ends.written_before ends.written_after text

-- The bytes that were taken are an image, which has a table, and a haystack behind it.
pub record TakesTable (form : Form) (len : ℕ) (ends : Ends) (image haystack : List ℕ) (ended : Bool) (t : Table)
    : Type 0 where
  pub takes : Takes ends (image ++ haystack) ended
  pub split : IsSplit len (image ++ haystack) ended image haystack
  pub read : table_read form image ≡ Ok t

-- The source failed in the image, or in the haystack.
pub data FeedCut (form : Form) (mode : Anchored) (len : ℕ) (ends : Ends) : Type 0 where
  InImage : (image : List ℕ) → length image < len → Consumes ends.left_before ends.left_after image
      → Keeps ends.written_before ends.written_after → FeedCut form mode len ends
  InData : (image haystack : List ℕ) → (t : Table) → TakesTable form len ends image haystack false t
      → IsCut t mode (written_by ends) haystack → FeedCut form mode len ends

-- The sink failed at the line of the test that the image fails, or at a line of what its table answers.
pub data FeedBreaks (form : Form) (mode : Anchored) (len : ℕ) (ends : Ends) : Type 0 where
  InRefusal : (image : List ℕ) → (ended : Bool) → (kind : Kind) → Takes ends image ended
      → IsSplit len image ended image [] → table_read form image ≡ Err kind
      → AppendsFront ends.written_before ends.written_after (refused_line kind) → FeedBreaks form mode len ends
  InReply : (image haystack : List ℕ) → (ended : Bool) → (t : Table) → (last : List ℕ) → (status : ℕ)
      → TakesTable form len ends image haystack ended t
      → StreamReplies t mode haystack ended (match_lines (told_now t mode haystack) ++ last) status
      → AppendsThenFront ends.written_before ends.written_after (match_lines (told_now t mode haystack)) last
      → FeedBreaks form mode len ends
  AtEvent : (image haystack : List ℕ) → (t : Table) → TakesTable form len ends image haystack false t
      → BreaksAtEvent t mode (written_by ends) haystack → FeedBreaks form mode len ends

-- Memory ran out. No byte behind the image was taken, and nothing was written.
pub record FeedStarved (len : ℕ) (ends : Ends) : Type 0 where
  pub image : List ℕ
  pub few : length image ≤ len
  pub taken : Consumes ends.left_before ends.left_after image
  pub kept : Keeps ends.written_before ends.written_after

abbrev pub FeedEnds : Form → Anchored → ℕ → Ends → Result ℕ Fault → Type 0
FeedEnds form mode len ends (Ok status) = FeedAnswers form mode len ends status
FeedEnds form mode len ends (Err Fault.Source) = FeedCut form mode len ends
FeedEnds form mode len ends (Err Fault.Sink) = FeedBreaks form mode len ends
FeedEnds form mode len ends (Err Fault.Memory) = FeedStarved len ends
