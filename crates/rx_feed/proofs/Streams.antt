-- Texts in pieces: from what was read and written to what is answered.
use Rattle.rx_spec.proofs.Prelude.{common_steps, ◌≡◌, ℕ, ◌+◌, ◌<◌, ◌≤◌, Bool, true, false, Option, Result, Ok, Err}
use Rattle.rx_spec.proofs.Prelude.{List, [], ◌∷◌, ◌++◌, length, refl, ap, sym, ◌∙◌, subst, arith, append_assoc}
use Rattle.rx_spec.proofs.Prelude.{append-nil, length-append, All-append, All-nil, All, Appends, Consumes, IsAtEnd}
use Rattle.rx_spec.proofs.Prelude.{Keeps, AreBytes, Anchored, MatchError, Table}
use Rattle.rx_lemmas.proofs.Overlapping.{overlapping-nil}
use Rattle.rx_stream.specs.Calls.{IsNew, IsUnsupported, is_open}
use Rattle.rx_stream.specs.Remaining.{events, remaining, now, told, told_now}
use Rattle.rx_stream.specs.declared.event.StreamEvent.{StreamEvent}
use Rattle.rx_stream.specs.declared.place.Place.{Place}
use Rattle.rx_feed.specs.Lines.{IsMatch, lines, match_lines, quit_line, end_line, long_line, unsupported_line}
use Rattle.rx_feed.specs.Outside.{Writes}
use Rattle.rx_feed.specs.Pieces.{IsBroken, IsRead, MeetsQuit}
use Rattle.rx_feed.specs.Replies.{IsToldLast, StreamReplies, most_data, most_of_piece}
use Rattle.rx_feed.specs.Run.{StreamBreaks, StreamCut, StreamEnds, TakesText}
use Rattle.rx_feed.specs.declared.fault.Fault.{Fault}
use Rattle.rx_feed.proofs.EventLines.{lines-append, match_lines-all, match_lines-quit}
use Rattle.rx_feed.proofs.Pieces.{read_more}
use Rattle.rx_transfer.specs.Outside.{Ends}
use Rattle.rx_transfer.proofs.Transfers.{appends_more, appends_none, consumes_kept, consumes_more, consumes_none}
use Rattle.rx_transfer.proofs.Transfers.{keeps_same}

-- ---- answers

abbrev ends_by : Option (List ℕ) → Option (List ℕ) → Option (List ℕ) → Option (List ℕ) → Ends
ends_by left_before left_after written_before written_after = record {
  left_before = left_before;
  left_after = left_after;
  written_before = written_before;
  written_after = written_after;
}

-- the lines of the matches that are told before the end
abbrev now_lines : Table → Anchored → List ℕ → List ℕ
now_lines t mode haystack = match_lines (told_now t mode haystack)

-- Behind these lines the rest of an answer is written, or a front of it.
pub stream_answer : {t : Table} {mode : Anchored} {over : Bool} {ends : Ends} {haystack : List ℕ} {ended : Bool}
    {status : ℕ} (between : Option (List ℕ)) (last : List ℕ) (result : Result ℕ Fault)
    → TakesText over ends haystack ended
    → StreamReplies t mode haystack ended (now_lines t mode haystack ++ last) status
    → Appends ends.written_before between (now_lines t mode haystack)
    → Writes between ends.written_after last status result → StreamEnds t mode over ends result
stream_answer {t} {mode} {over} {ends} {haystack} {ended} {status} between last (Ok told) takes replies p w =
    grind (arith, common_steps, appends_more)
stream_answer {t} {mode} {over} {ends} {haystack} {ended} {status} between last (Err Fault.Sink) takes replies p w =
    StreamBreaks.InReply haystack ended last status takes replies
    (record { between = between; whole = p; front = w })
stream_answer between last _ takes replies p w = absurd w

-- ---- what was read of a text

-- All bytes that were taken are read, and the lines of their events are written.
pub record HasRead (t : Table) (ids : List ℕ) (old here : Place) (ends : Ends) : Type 0 where
  pub haystack : List ℕ
  pub bytes : AreBytes haystack
  pub taken : Consumes ends.left_before ends.left_after haystack
  pub read : IsRead t ids old here haystack (record { before = ends.written_before; after = ends.written_after })

pub has_read_none : (t : Table) (ids : List ℕ) (place : Place) (left written : Option (List ℕ))
    → is_open place.stage ≡ true → now t ids place [] ≡ []
    → HasRead t ids place place
    (ends_by left left written written)
has_read_none t ids place left written still none = grind (arith, common_steps, consumes_none, appends_none)

-- a piece was read: so many bytes, and no more than a piece has
pub record IsPiece (left left' : Option (List ℕ)) (count : ℕ) (piece : List ℕ) : Type 0 where
  pub bytes : AreBytes piece
  pub taken : Consumes left left' piece
  pub len : length piece ≡ count
  pub short : count ≤ most_of_piece

-- from one call to the next: what is left and what was written
module _ {t : Table} {ids : List ℕ} {old here : Place} {left_before left : Option (List ℕ)}
    {written_before written : Option (List ℕ)}
    (has : HasRead t ids old here (ends_by left_before left written_before written)) where
  -- the next piece
  pub has_read_more : {new : Place} {piece : List ℕ} {count : ℕ} {left' written' : Option (List ℕ)}
      → IsPiece left left' count piece → IsRead t ids here new piece (record { before = written; after = written' })
      → HasRead t ids old new (ends_by left_before left' written_before written')
  has_read_more {piece = piece} {left' = left'} got read = record {
    haystack = has.haystack ++ piece;
    bytes = All-append (λ b. b < 256) has.haystack piece has.bytes got.bytes;
    taken = consumes_more left_before left left' has.haystack piece has.taken got.taken;
    read = read_more has.read got.bytes read;
  }

  module _ {mode : Anchored} (new : IsNew t ids mode old) where
    now_is : told_now t mode has.haystack ≡ now t ids old has.haystack
    now_is = sym (new.tells_now has.haystack)

    all_is : told t mode has.haystack ≡ now t ids old has.haystack ++ remaining t ids here []
    all_is =
        sym (new.tells has.haystack has.bytes)
        ∙ ap (remaining t ids old) (sym (append-nil has.haystack))
        ∙ has.read.tells [] (All-nil (λ b. b < 256))

    lines_are : lines (now t ids old has.haystack) ≡ now_lines t mode has.haystack
    lines_are = sym (ap match_lines now_is ∙ match_lines-all (now t ids old has.haystack) has.read.matches)

    are_written : Appends written_before written (now_lines t mode has.haystack)
    are_written = subst (Appends written_before written) lines_are has.read.lines

    -- the source is at its end
    pub stream_ended : (left' written' : Option (List ℕ)) (over : Bool) (count : ℕ) (result : Result ℕ Fault)
        → count ≡ length has.haystack → length has.haystack ≤ most_data → (over ≡ true → has.haystack ≡ [])
        → Keeps left left' → IsAtEnd left'
        → Writes written written' (lines (remaining t ids here []) ++ end_line count) 0 result
        → StreamEnds t mode over (ends_by left_before left' written_before written') result
    stream_ended left' written' over count result same few short kept at_end w =
        let told_lines : List ℕ = lines (now t ids old has.haystack) in
        let rest : List ℕ = lines (remaining t ids here []) in
        let text : now_lines t mode has.haystack ++ (rest ++ end_line count)
        ≡ lines (told t mode has.haystack) ++ end_line (length has.haystack)
        = ap (λ (l : List ℕ). l ++ (rest ++ end_line count)) (sym lines_are)
        ∙ sym (append_assoc told_lines rest (end_line count))
        ∙ ap (λ (l : List ℕ). l ++ end_line count)
        (sym (ap lines all_is ∙ lines-append (now t ids old has.haystack) (remaining t ids here [])))
        ∙ ap (λ (n : ℕ). lines (told t mode has.haystack) ++ end_line n) same in
        let takes : TakesText over (ends_by left_before left' written_before written') has.haystack true = record {
          takes = record {
            taken = consumes_kept left_before left left' has.haystack has.taken kept;
            at_end = λ e. at_end;
          };
          short = λ e. (refl, short e);
        } in
        stream_answer {status = 0} written (rest ++ end_line count) result takes
        (StreamReplies.Ended new.supported refl few (subst (All IsMatch) (sym now_is) has.read.matches) text refl)
        are_written w

    -- the source fails
    pub stream_cut : (left' : Option (List ℕ)) → length has.haystack ≤ most_data → Keeps left left'
        → StreamCut t mode false (ends_by left_before left' written_before written)
    stream_cut left' few kept = record {
      haystack = has.haystack;
      taken = consumes_kept left_before left left' has.haystack has.taken kept;
      goes_on = refl;
      cut = record {
        supported = new.supported;
        few = few;
        matches = subst (All IsMatch) (sym now_is) has.read.matches;
        lines =
            subst (λ (es : List StreamEvent). Appends written_before written (lines es)) (sym now_is) has.read.lines;
      };
    }

    -- too many bytes were taken
    pub stream_long : (written' : Option (List ℕ)) (result : Result ℕ Fault) → most_data < length has.haystack
        → length has.haystack ≤ most_data + most_of_piece → Writes written written' long_line 2 result
        → StreamEnds t mode false (ends_by left_before left written_before written') result
    stream_long written' result long few w =
        let takes : TakesText false (ends_by left_before left written_before written') has.haystack false = record {
          takes = record { taken = has.taken; at_end = λ e. absurd (cc) };
          short = λ e. absurd (cc);
        } in
        stream_answer {status = 2} written long_line result takes
        (StreamReplies.Long new.supported long few refl refl) are_written w

    -- ---- the last piece

    module _ {taken count : ℕ} {piece : List ℕ} {left' : Option (List ℕ)} (so_far : taken ≡ length has.haystack)
        (got : IsPiece left left' count piece) where
      abbrev all : List ℕ
      all = has.haystack ++ piece

      all_taken : Consumes left_before left' all
      all_taken = consumes_more left_before left left' has.haystack piece has.taken got.taken

      all_len : length all ≡ taken + count
      all_len = omega (arith, length-append has.haystack piece, got.len, so_far)

      -- the last piece tells an event after others
      tells_last : (told_here later : List StreamEvent) (event : StreamEvent)
          → now t ids here piece ≡ told_here ++ (event ∷ later)
          → told_now t mode all ≡ (now t ids old has.haystack ++ told_here) ++ (event ∷ later)
      tells_last told_here later event tells =
          sym (new.tells_now all) ∙ has.read.tells_now piece got.bytes
          ∙ ap (λ (es : List StreamEvent). now t ids old has.haystack ++ es) tells
          ∙ sym (append_assoc (now t ids old has.haystack) told_here (event ∷ later))

      told_last : (told_here later : List StreamEvent) (event : StreamEvent)
          → now t ids here piece ≡ told_here ++ (event ∷ later)
          → IsToldLast t mode all (now t ids old has.haystack ++ told_here) event
      told_last told_here later event tells = record {
        before = has.haystack;
        last = piece;
        joined = refl;
        short = omega (arith, got.len, got.short);
        earlier = omega (arith, ap length now_is, length-append (now t ids old has.haystack) told_here);
        later = later;
        tells = tells_last told_here later event tells;
      }

      -- the lines of some of its events, behind those of the bytes before it
      lines_after : (told_here : List StreamEvent) (after : Option (List ℕ)) → Appends written after (lines told_here)
          → Appends written_before after (lines (now t ids old has.haystack ++ told_here))
      lines_after told_here after p =
          subst (Appends written_before after) (sym (lines-append (now t ids old has.haystack) told_here))
          (appends_more written_before written after (lines (now t ids old has.haystack)) (lines told_here)
          has.read.lines p)

      -- the sink fails in it
      pub stream_broken : {written' : Option (List ℕ)} → taken ≤ most_data
          → IsBroken t ids here piece (record { before = written; after = written' })
          → StreamBreaks t mode false (ends_by left_before left' written_before written')
      stream_broken few is =
          StreamBreaks.AtEvent all all_taken refl
          (record {
            supported = new.supported;
            few = omega (arith, all_len, got.short, few);
            told = now t ids old has.haystack ++ is.told;
            event = is.event;
            is_match = is.is_match;
            last = told_last is.told is.later is.event is.tells;
            lines = record {
              between = is.lines.between;
              whole = lines_after is.told is.lines.between is.lines.whole;
              front = is.lines.front;
            };
          })

      -- it holds a quit byte
      module _ {written' : Option (List ℕ)} {byte offset : ℕ}
          (is : MeetsQuit t ids here piece (record { before = written; after = written' }) byte offset) where
        takes_all : (last : Option (List ℕ))
            → TakesText false (ends_by left_before left' written_before last) all false
        takes_all last = record {
          takes = record { taken = all_taken; at_end = λ e. absurd (cc) };
          short = λ e. absurd (cc);
        }

        quit_matches : All IsMatch (now t ids old has.haystack ++ is.told)
        quit_matches = All-append IsMatch (now t ids old has.haystack) is.told has.read.matches is.matches

        quit_lines_are : lines (now t ids old has.haystack ++ is.told) ≡ now_lines t mode all
        quit_lines_are =
            sym (ap match_lines (tells_last is.told [] (StreamEvent.Quit byte offset) is.tells)
            ∙ match_lines-quit (now t ids old has.haystack ++ is.told) byte offset quit_matches)

        quit_lines : Appends written_before written' (now_lines t mode all)
        quit_lines = subst (Appends written_before written') quit_lines_are (lines_after is.told written' is.lines)

        pub stream_quit : (last : Option (List ℕ)) (result : Result ℕ Fault) → taken + count ≤ most_data
            → Writes written' last (quit_line byte offset) 4 result
            → StreamEnds t mode false (ends_by left_before left' written_before last) result
        stream_quit last result few w =
            stream_answer {status = 4} written' (quit_line byte offset) result (takes_all last)
            (StreamReplies.Quit (now t ids old has.haystack ++ is.told) byte offset new.supported
            (omega (arith, all_len, few)) quit_matches
            (told_last is.told [] (StreamEvent.Quit byte offset) is.tells)
            (ap (λ (l : List ℕ). l ++ quit_line byte offset) (sym quit_lines_are)) refl)
            quit_lines w

        pub stream_long_quit : (last : Option (List ℕ)) (result : Result ℕ Fault) → most_data < taken + count
            → taken ≤ most_data → Writes written' last long_line 2 result
            → StreamEnds t mode false (ends_by left_before left' written_before last) result
        stream_long_quit last result long few w =
            stream_answer {status = 2} written' long_line result (takes_all last)
            (StreamReplies.Long new.supported (omega (arith, all_len, long)) (omega (arith, all_len, got.short, few))
            refl refl) quit_lines w

-- ---- no piece is read

-- nothing is told of no bytes before their end
pub told_now-nil : (t : Table) (mode : Anchored) → told_now t mode [] ≡ []
told_now-nil t mode = grind (arith, common_steps, overlapping-nil)

pub new_tells_none : {t : Table} {ids : List ℕ} {mode : Anchored} {place : Place} → IsNew t ids mode place
    → now t ids place [] ≡ []
new_tells_none {t} {ids} {mode} new = new.tells_now [] ∙ told_now-nil t mode

-- the mode has no starts
pub stream_unsupported : {t : Table} {mode : Anchored} {error : MatchError} (over : Bool)
    (left before after : Option (List ℕ)) (result : Result ℕ Fault) → IsUnsupported t mode error
    → (over ≡ true → IsAtEnd left) → Writes before after (unsupported_line mode) 4 result
    → StreamEnds t mode over (ends_by left left before after) result
stream_unsupported {t} {mode} over left before after result is at_end w =
    let takes : TakesText over (ends_by left left before after) [] over = record {
      takes = record { taken = consumes_none left; at_end = at_end };
      short = λ e. (e, refl);
    } in
    let none : now_lines t mode [] ≡ [] = ap match_lines (told_now-nil t mode) in
    stream_answer {status = 4} before (unsupported_line mode) result takes
    (StreamReplies.Unsupported is.refused refl (ap (λ (l : List ℕ). l ++ unsupported_line mode) none) refl)
    (subst (Appends before before) (sym none) (appends_none before)) w

-- the source had ended before
pub stream_empty : {t : Table} {ids : List ℕ} {mode : Anchored} {place : Place} (over : Bool)
    (left before after : Option (List ℕ)) (result : Result ℕ Fault) → IsNew t ids mode place
    → now t ids place [] ≡ [] → IsAtEnd left
    → Writes before after (lines (remaining t ids place []) ++ end_line 0) 0 result
    → StreamEnds t mode over (ends_by left left before after) result
unfolding has_read_none
stream_empty {t} {ids} {mode} {place} over left before after result new none at_end w =
    stream_ended (has_read_none t ids place left before new.begins_open none) new left after over 0 result refl
    (omega arith) (λ e. refl) (keeps_same left) at_end w
