-- Images before a text: from what was read of both to what is answered.
use Rattle.rx_spec.proofs.Prelude.{common_steps, ◌≡◌, ◌≢◌, ℕ, ◌<◌, ◌≤◌, inl, inr, Bool, true, false, Option, Result, Ok}
use Rattle.rx_spec.proofs.Prelude.{Err, List, [], ◌++◌, ◌+◌, length, length-append, refl, ap, sym, ◌∙◌, subst, arith}
use Rattle.rx_spec.proofs.Prelude.{append-nil, Consumes, IsAtEnd, Keeps, Anchored, Table}
use Rattle.rx_spec.specs.declared.Form.{Form}
use Rattle.rx_wire.specs.Kinds.{FailsBy, Gives, Kind}
use Rattle.rx_feed.specs.Lines.{refused_line}
use Rattle.rx_feed.specs.Outside.{Writes, source_fault}
use Rattle.rx_feed.specs.Replies.{FeedReplies, IsSplit, read_table, table_read}
use Rattle.rx_feed.specs.Run.{FeedBreaks, FeedCut, FeedEnds, Refuses, StreamBreaks, ReadEnds, StreamEnds, Takes}
use Rattle.rx_feed.specs.Run.{TakesTable, TakesText, written_by}
use Rattle.rx_feed.specs.declared.fault.Fault.{Fault}
use Rattle.rx_transfer.specs.Outside.{Ends}
use Rattle.rx_transfer.specs.declared.reading.ReadFault.{ReadFault}
use Rattle.rx_transfer.proofs.Transfers.{consumes_more}

-- an error that isn't want of memory is the test that fails first
fails_exactly : {X : Type 0} (kind : Kind) (read : Result X Kind) → FailsBy kind read → kind ≢ Kind.Memory
    → read ≡ Err kind
fails_exactly Kind.Memory read fails other = absurd (other refl)
fails_exactly _ read fails other = fails

-- An image was read: to the end of the source, or as many bytes as are asked for.
pub record IsImage (len : ℕ) (left_before left : Option (List ℕ)) (image : List ℕ) (over : Bool) : Type 0 where
  pub few : length image ≤ len
  pub whole : over ≡ false → length image ≡ len
  pub taken : Consumes left_before left image
  pub at_end : over ≡ true → IsAtEnd left

split_if : (len : ℕ) (image haystack : List ℕ) (over ended : Bool) → length image ≤ len
    → (over ≡ false → length image ≡ len) → (over ≡ true → (ended ≡ true) × (haystack ≡ []))
    → IsSplit len (image ++ haystack) ended image haystack
split_if len image haystack false ended few whole short = grind (arith, common_steps)
split_if len image haystack true ended few whole short = grind (arith, common_steps)

-- a run: what is asked, and what it leaves
pub record Run : Type 0 where
  pub form : Form
  pub mode : Anchored
  pub len : ℕ
  pub ends : Ends

-- what is left behind an image and was written before it, and what a run leaves
abbrev pub behind : Option (List ℕ) → Ends → Ends
behind left ends = record {
  left_before = left;
  left_after = ends.left_after;
  written_before = ends.written_before;
  written_after = ends.written_after;
}

-- what was read first
pub read_first : {before now read : List ℕ} → before ≡ [] → now ≡ before ++ read → read ≡ now
read_first {read = read} empty told = sym (told ∙ ap (λ (l : List ℕ). l ++ read) empty)

-- the image could not be read
pub feed_unread : (run : Run) {before now : List ℕ} (fault : ReadFault) → before ≡ []
    → (fault ≡ ReadFault.Failed → (read : List ℕ) × (now ≡ before ++ read) × (length now < run.len)
    × Consumes run.ends.left_before run.ends.left_after read)
    → (fault ≡ ReadFault.Memory → (read : List ℕ) × (length before + length read ≤ run.len)
    × Consumes run.ends.left_before run.ends.left_after read)
    → Keeps run.ends.written_before run.ends.written_after
    → FeedEnds run.form run.mode run.len run.ends (Err (source_fault fault))
feed_unread run {before} ReadFault.Failed empty cut starved kept =
    let read = cut refl in
    let len = ap length empty in
    FeedCut.InImage read.0 (omega (arith, ap length read.1, length-append before read.0, len, read.2)) read.3 kept
feed_unread run ReadFault.Memory empty cut starved kept = grind (arith, common_steps)

module _ (run : Run) {image : List ℕ} {over : Bool} {left : Option (List ℕ)}
    (is : IsImage run.len run.ends.left_before left image over) where
  abbrev EndsBy : Result ℕ Fault → Type 0
  EndsBy result = FeedEnds run.form run.mode run.len run.ends result

  split : {haystack : List ℕ} {ended : Bool} → TakesText over (behind left run.ends) haystack ended
      → IsSplit run.len (image ++ haystack) ended image haystack
  split {haystack} {ended} takes = split_if run.len image haystack over ended is.few is.whole takes.short

  takes_all : {haystack : List ℕ} {ended : Bool} → TakesText over (behind left run.ends) haystack ended
      → Takes run.ends (image ++ haystack) ended
  takes_all {haystack} {ended} takes = grind (arith, common_steps, consumes_more)

  -- more bytes may come
  takes_more : {t : Table} {haystack : List ℕ} → table_read run.form image ≡ Ok t
      → Consumes left run.ends.left_after haystack → over ≡ false
      → TakesTable run.form run.len run.ends image haystack false t
  takes_more {t} {haystack} read taken goes_on = grind (arith, common_steps, consumes_more, split, split_if)

  feed_ends : {t : Table} (result : Result ℕ Fault) → table_read run.form image ≡ Ok t
      → StreamEnds t run.mode over (behind left run.ends) result → EndsBy result
  feed_ends {t} (Ok status) read stream = record {
    bytes = image ++ stream.haystack;
    ended = stream.ended;
    takes = takes_all stream.takes;
    text = stream.text;
    replies = FeedReplies.Searched image stream.haystack t (split stream.takes) read stream.replies;
    written = stream.written;
  }
  feed_ends {t} (Err Fault.Source) read stream =
      FeedCut.InData image stream.haystack t (takes_more read stream.taken stream.goes_on) stream.cut
  feed_ends {t} (Err Fault.Sink) read (StreamBreaks.InReply haystack ended last status takes replies lines) =
      FeedBreaks.InReply image haystack ended t last status
      (record { takes = takes_all takes; split = split takes; read = read }) replies lines
  feed_ends {t} (Err Fault.Sink) read (StreamBreaks.AtEvent haystack taken goes_on breaks) =
      FeedBreaks.AtEvent image haystack t (takes_more read taken goes_on) breaks
  feed_ends (Err Fault.Memory) read stream = absurd stream

  -- the image is refused, and nothing more is read
  module _ (stays : run.ends.left_after ≡ left) where
    split_whole : IsSplit run.len image over image []
    split_whole =
        subst (λ (bytes : List ℕ). IsSplit run.len bytes over image []) (append-nil image)
        (split_if run.len image [] over over is.few is.whole (λ e. (e, refl)))

    takes_image : Takes run.ends image over
    takes_image = record {
      taken = subst (λ (l : Option (List ℕ)). Consumes run.ends.left_before l image) (sym stays) is.taken;
      at_end = λ e. subst IsAtEnd (sym stays) (is.at_end e);
    }

    refused_by : (kind : Kind) (result : Result ℕ Fault) → table_read run.form image ≡ Err kind
        → Writes run.ends.written_before run.ends.written_after (refused_line kind) 1 result → EndsBy result
    refused_by kind (Ok status) read w = record {
      bytes = image;
      ended = over;
      takes = takes_image;
      text = refused_line kind;
      replies = FeedReplies.Refused kind split_whole read refl w.0;
      written = w.1;
    }
    refused_by kind (Err Fault.Sink) read w = FeedBreaks.InRefusal image over kind takes_image split_whole read w
    refused_by kind _ read w = absurd w

    feed_refuses : {L : Type 0} (table_of : L → Table) (reads : Result (L × ℕ) Kind) (kind : Kind)
        (result : Result ℕ Fault) → table_read run.form image ≡ read_table table_of reads → FailsBy kind reads
        → Refuses kind (written_by run.ends) result → EndsBy result
    feed_refuses table_of reads kind result same fails (inl memory) =
        subst EndsBy (sym memory.1)
        (record { image = image; few = is.few; taken = takes_image.taken; kept = memory.2 })
    feed_refuses table_of reads kind result same fails (inr told) =
        refused_by kind result (same ∙ ap (read_table table_of) (fails_exactly kind reads fails told.0)) told.1

  -- either
  pub feed_read_ends : {L : Type 0} (table_of : L → Table) (reads : Result (L × ℕ) Kind) (read : Result (L × ℕ) Kind)
      (result : Result ℕ Fault) → table_read run.form image ≡ read_table table_of reads
      → Gives (λ (x : L × ℕ). (x.0, x.1)) read reads
      → ReadEnds table_of run.mode over (behind left run.ends) read result → EndsBy result
  feed_read_ends table_of reads (Ok (x, n)) result same gives stream = grind (arith, common_steps, feed_ends)
  feed_read_ends table_of reads (Err kind) result same gives refused =
      feed_refuses refused.1 table_of reads kind result same gives refused.0
