-- What the calls of a searcher tell of a piece, and pieces one after another.
use Rattle.rx_spec.proofs.Prelude.{common_steps, ◌≡◌, ℕ, ◌+◌, ◌<◌, ◌≤◌, true, Some, None, Option, List, [], ◌∷◌, ◌++◌}
use Rattle.rx_spec.proofs.Prelude.{length, drop, ap, sym, ◌∙◌, subst, arith, append_assoc, append-nil, length-append}
use Rattle.rx_spec.proofs.Prelude.{All-append, All-push, All-nil, All, Appends, AreBytes, Table}
use Rattle.rx_stream.specs.Calls.{is_open, IsFed, IsFinished}
use Rattle.rx_stream.specs.Remaining.{remaining, now, now_at, told_over}
use Rattle.rx_stream.specs.declared.event.Fed.{Fed}
use Rattle.rx_stream.specs.declared.event.StreamEvent.{StreamEvent}
use Rattle.rx_stream.specs.declared.place.Place.{Place}
use Rattle.rx_stream.specs.declared.place.Stage.{Stage}
use Rattle.rx_stream.proofs.Cuttings.{silent_call, silent_now, told_call, told_now, quit_is_last}
use Rattle.rx_stream.proofs.Feed.{open_stage}
use Rattle.rx_transfer.specs.Outside.{AppendsFront}
use Rattle.rx_transfer.proofs.Transfers.{appends_more, appends_none}
use Rattle.rx_feed.specs.Lines.{IsMatch, event_line, lines}
use Rattle.rx_feed.specs.Outside.{Written}
use Rattle.rx_feed.specs.Pieces.{IsBroken, IsRead, MeetsQuit}
use Rattle.rx_feed.proofs.EventLines.{lines-append}
use Rattle.rx_feed.proofs.Fronts.{front_after}
use Rattle.std.proofs.lemmas.List.{take-append-le}

no_bytes : AreBytes []
no_bytes = All-nil (λ b. b < 256)

-- ---- the calls over one piece

-- A piece is read up to a place in it, and the lines of its events so far are written.
pub record Feeds (t : Table) (ids : List ℕ) (old here : Place) (piece : List ℕ) (from : ℕ) (written : Written)
    : Type 0 where
  pub within : from ≤ length piece
  pub still_open : is_open here.stage ≡ true
  pub taken : here.taken ≡ old.taken + from
  pub told : List StreamEvent
  pub tells : (more : List ℕ) → AreBytes more
      → remaining t ids old (piece ++ more) ≡ told ++ remaining t ids here (drop from piece ++ more)
  pub tells_now : (more : List ℕ) → AreBytes more
      → now t ids old (piece ++ more) ≡ told ++ now t ids here (drop from piece ++ more)
  pub matches : All IsMatch told
  pub lines : Appends written.before written.after (lines told)

pub feeds_none : (t : Table) (ids : List ℕ) (place : Place) (piece : List ℕ) (written : Option (List ℕ))
    → is_open place.stage ≡ true
    → Feeds t ids place place piece 0 (record { before = written; after = written })
feeds_none t ids place piece written still = grind (arith, common_steps, appends_none)

-- after an event what is left of the piece tells one less
pub fed_smaller : {t : Table} {ids : List ℕ} {here new : Place} {piece : List ℕ} {from : ℕ} {fed : Fed}
    {event : StreamEvent} → IsFed t ids here new piece from fed → fed.event ≡ Some event
    → length (now t ids new (drop fed.used piece)) < length (now t ids here (drop from piece))
fed_smaller {t} {ids} {here} {new} {piece} {from} {fed} {event} is some =
    let told : now t ids here (drop from piece) ≡ event ∷ now t ids new (drop fed.used piece)
    = ap (now t ids here) (sym (append-nil (drop from piece)))
    ∙ told_now is some [] no_bytes
    ∙ ap (λ (xs : List ℕ). event ∷ now t ids new xs) (append-nil (drop fed.used piece)) in
    omega (arith, ap length told)

module _ {t : Table} {ids : List ℕ} {old here new : Place} {piece : List ℕ} {from : ℕ} {fed : Fed}
    {before after : Option (List ℕ)}
    (feeds : Feeds t ids old here piece from (record { before = before; after = after }))
    (is : IsFed t ids here new piece from fed) where
  -- the next match
  pub feeds_more : {event : StreamEvent} {later : Option (List ℕ)} → fed.event ≡ Some event → IsMatch event
      → Appends after later (event_line event)
      → Feeds t ids old new piece fed.used (record { before = before; after = later })
  feeds_more {event} {later} some match p = record {
    within = is.high;
    still_open = is.stays_open;
    taken = omega (arith, is.taken, feeds.taken);
    told = feeds.told ++ (event ∷ []);
    tells = λ more are.
        feeds.tells more are
        ∙ ap (λ (es : List StreamEvent). feeds.told ++ es) (told_call is some more are)
        ∙ sym (append_assoc feeds.told (event ∷ []) (remaining t ids new (drop fed.used piece ++ more)));
    tells_now = λ more are.
        feeds.tells_now more are
        ∙ ap (λ (es : List StreamEvent). feeds.told ++ es) (told_now is some more are)
        ∙ sym (append_assoc feeds.told (event ∷ []) (now t ids new (drop fed.used piece ++ more)));
    matches = All-push IsMatch feeds.told event feeds.matches match;
    lines =
        subst (Appends before later)
        (sym (lines-append feeds.told (event ∷ [])
        ∙ ap (λ (l : List ℕ). lines feeds.told ++ l) (append-nil (event_line event))))
        (appends_more before after later (lines feeds.told) (event_line event) feeds.lines p);
  }

  -- an event is told after those so far
  now_told : {event : StreamEvent} → fed.event ≡ Some event
      → now t ids old piece ≡ feeds.told ++ (event ∷ now t ids new (drop fed.used piece ++ []))
  now_told {event} some = grind (arith, common_steps, append-nil, no_bytes, told_now)

  -- the end of the piece
  pub feeds_over : fed.event ≡ None → IsRead t ids old new piece (record { before = before; after = after })
  feeds_over none =
      let all : now t ids old piece ≡ feeds.told
      = ap (now t ids old) (sym (append-nil piece))
      ∙ feeds.tells_now [] no_bytes
      ∙ ap (λ (xs : List ℕ). feeds.told ++ now t ids here xs) (append-nil (drop from piece))
      ∙ ap (λ (es : List StreamEvent). feeds.told ++ es) (is.on_time none) ∙ append-nil feeds.told in
      record {
        still_open = is.stays_open;
        taken = omega (arith, is.taken, feeds.taken, is.over none);
        tells = λ more are.
            feeds.tells more are
            ∙ ap (λ (es : List StreamEvent). feeds.told ++ es) (silent_call is none more are)
            ∙ ap (λ (es : List StreamEvent). es ++ remaining t ids new more) (sym all);
        tells_now = λ more are.
            feeds.tells_now more are
            ∙ ap (λ (es : List StreamEvent). feeds.told ++ es) (silent_now is none more are)
            ∙ ap (λ (es : List StreamEvent). es ++ now t ids new more) (sym all);
        matches = subst (All IsMatch) (sym all) feeds.matches;
        lines = subst (λ (es : List StreamEvent). Appends before after (lines es)) (sym all) feeds.lines;
      }

  -- a quit byte, after which nothing is told
  pub feeds_quit : {byte offset : ℕ} → fed.event ≡ Some (StreamEvent.Quit byte offset)
      → MeetsQuit t ids old piece (record { before = before; after = after }) byte offset
  feeds_quit {byte} {offset} some =
      let later : List StreamEvent = now t ids new (drop fed.used piece ++ []) in
      let here_tells : (now_at Stage.Open t ids here (drop from piece ++ [])) ≡ StreamEvent.Quit byte offset ∷ later
      = sym (ap (λ (s : Stage). now_at s t ids here (drop from piece ++ [])) (open_stage here.stage feeds.still_open))
      ∙ told_now is some [] no_bytes in
      record {
        told = feeds.told;
        matches = feeds.matches;
        tells =
            now_told some
            ∙ ap (λ (es : List StreamEvent). feeds.told ++ (StreamEvent.Quit byte offset ∷ es))
            (quit_is_last (told_over t ids here (drop from piece ++ [])) byte offset later here_tells);
        lines = feeds.lines;
      }

  -- the sink fails
  pub feeds_broken : {event : StreamEvent} {later : Option (List ℕ)} → fed.event ≡ Some event → IsMatch event
      → AppendsFront after later (event_line event)
      → IsBroken t ids old piece (record { before = before; after = later })
  feeds_broken {event} {later} some match front = record {
    told = feeds.told;
    event = event;
    later = now t ids new (drop fed.used piece ++ []);
    tells = now_told some;
    is_match = match;
    lines = record { between = after; whole = feeds.lines; front = front };
  }

-- ---- one piece after another

-- a piece after those before it
module _ {t : Table} {ids : List ℕ} {old here : Place} {xs : List ℕ} {before between : Option (List ℕ)}
    (read : IsRead t ids old here xs (record { before = before; after = between })) where
  pub read_more : {new : Place} {ys : List ℕ} {after : Option (List ℕ)} → AreBytes ys
      → IsRead t ids here new ys (record { before = between; after = after })
      → IsRead t ids old new (xs ++ ys) (record { before = before; after = after })
  read_more {new} {ys} {after} bytes piece =
      let both : now t ids old (xs ++ ys) ≡ now t ids old xs ++ now t ids here ys = read.tells_now ys bytes in
      record {
        still_open = piece.still_open;
        taken = omega (arith, read.taken, piece.taken, length-append xs ys);
        tells = λ more are.
            ap (remaining t ids old) (append_assoc xs ys more)
            ∙ read.tells (ys ++ more) (All-append (λ b. b < 256) ys more bytes are)
            ∙ ap (λ (es : List StreamEvent). now t ids old xs ++ es) (piece.tells more are)
            ∙ sym (append_assoc (now t ids old xs) (now t ids here ys) (remaining t ids new more))
            ∙ ap (λ (es : List StreamEvent). es ++ remaining t ids new more) (sym both);
        tells_now = λ more are.
            ap (now t ids old) (append_assoc xs ys more)
            ∙ read.tells_now (ys ++ more) (All-append (λ b. b < 256) ys more bytes are)
            ∙ ap (λ (es : List StreamEvent). now t ids old xs ++ es) (piece.tells_now more are)
            ∙ sym (append_assoc (now t ids old xs) (now t ids here ys) (now t ids new more))
            ∙ ap (λ (es : List StreamEvent). es ++ now t ids new more) (sym both);
        matches =
            subst (All IsMatch) (sym both)
            (All-append IsMatch (now t ids old xs) (now t ids here ys) read.matches piece.matches);
        lines =
            subst (Appends before after)
            (sym (ap lines both ∙ lines-append (now t ids old xs) (now t ids here ys)))
            (appends_more before between after (lines (now t ids old xs)) (lines (now t ids here ys)) read.lines
            piece.lines);
      }

-- ---- the end of a text

-- The end has told some matches, and their lines are written.
pub record Finishes (t : Table) (ids : List ℕ) (old here : Place) (written : Written) : Type 0 where
  pub told : List StreamEvent
  pub tells : remaining t ids old [] ≡ told ++ remaining t ids here []
  pub lines : Appends written.before written.after (lines told)

module _ {t : Table} {ids : List ℕ} {old here new : Place} {before after : Option (List ℕ)}
    (finishes : Finishes t ids old here (record { before = before; after = after })) where
  pub finishes_more : {event : StreamEvent} {later : Option (List ℕ)} → IsFinished t ids here new (Some event)
      → Appends after later (event_line event)
      → Finishes t ids old new (record { before = before; after = later })
  finishes_more {event} {later} is p = record {
    told = finishes.told ++ (event ∷ []);
    tells =
        finishes.tells ∙ ap (λ (es : List StreamEvent). finishes.told ++ es) is.tells
        ∙ sym (append_assoc finishes.told (event ∷ []) (remaining t ids new []));
    lines =
        subst (Appends before later)
        (sym (lines-append finishes.told (event ∷ [])
        ∙ ap (λ (l : List ℕ). lines finishes.told ++ l) (append-nil (event_line event))))
        (appends_more before after later (lines finishes.told) (event_line event) finishes.lines p);
  }

  -- a front of the line of the next match is one of all that is written
  pub finishes_broken : {event : StreamEvent} {later : Option (List ℕ)} (last : List ℕ)
      → IsFinished t ids here new (Some event) → AppendsFront after later (event_line event)
      → AppendsFront before later (lines (remaining t ids old []) ++ last)
  finishes_broken {event} {later} last is front =
      let rest : List StreamEvent = remaining t ids new [] in
      let all : lines finishes.told ++ (event_line event ++ (lines rest ++ last))
      ≡ lines (remaining t ids old []) ++ last
      = ap (λ (l : List ℕ). lines finishes.told ++ l) (sym (append_assoc (event_line event) (lines rest) last))
      ∙ sym (append_assoc (lines finishes.told) (event_line event ++ lines rest) last)
      ∙ ap (λ (l : List ℕ). l ++ last)
      (sym (ap lines (finishes.tells ∙ ap (λ (es : List StreamEvent). finishes.told ++ es) is.tells)
      ∙ lines-append finishes.told (event ∷ rest))) in
      subst (AppendsFront before later) all
      (front_after before after later (lines finishes.told) (event_line event ++ (lines rest ++ last)) finishes.lines
      (grind (arith, common_steps, length-append, take-append-le)))
