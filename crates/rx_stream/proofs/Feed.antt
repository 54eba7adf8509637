-- What a call of `feed` tells and leaves.
use Rattle.rx_spec.proofs.Prelude.{common_steps, ◌≡◌, ℕ, ◌+◌, ◌-◌, ◌≤◌, true, Some, None, Option, List, [], ◌∷◌, ◌++◌}
use Rattle.rx_spec.proofs.Prelude.{length, drop, refl, ap, sym, ◌∙◌, subst, arith, drop-length, append-nil}
use Rattle.rx_spec.proofs.Prelude.{append_assoc, slice_index, eoi, AreBytes, row_of, IsWord, HalfMatch, Table}
use Rattle.rx_lemmas.proofs.Words.{IsWord-nil}
use Rattle.rx_search.specs.Labels.{patterns_of}
use Rattle.rx_search.proofs.Standing.{Standing}
use Rattle.rx_stream.specs.Remaining.{events, told_over, pending, units_to, now_at}
use Rattle.rx_stream.specs.Calls.{is_open, with_event, IsFed, IsNextPattern}
use Rattle.rx_stream.specs.Pieces.{IsQuietWalk, MeetsMatch, MeetsQuit}
use Rattle.rx_stream.specs.declared.event.Fed.{Fed}
use Rattle.rx_stream.specs.declared.event.StreamEvent.{StreamEvent}
use Rattle.rx_stream.specs.declared.place.Place.{Place}
use Rattle.rx_stream.specs.declared.place.Stage.{Stage}
use Rattle.rx_stream.proofs.Remaining.{IsRead, reads_match, reads_quit, reads_all}
use Rattle.rx_lemmas.proofs.ReadUnits.{bytes_word}

pub ended_word : (bytes : List ℕ) → AreBytes bytes → IsWord (bytes ++ (eoi ∷ []))
ended_word bytes are = grind (arith, common_steps)

pub open_stage : (s : Stage) → is_open s ≡ true → s ≡ Stage.Open
open_stage Stage.Open e = refl
open_stage _ e = absurd (cc)

-- how far a call has come
pub record Advances (old new : Place) (piece : List ℕ) (from : ℕ) (fed : Fed) : Type 0 where
  pub low : from ≤ fed.used
  pub high : fed.used ≤ length piece
  pub was_open : old.stage ≡ Stage.Open
  pub still_open : new.stage ≡ Stage.Open
  pub taken : new.taken + from ≡ old.taken + fed.used
  pub over : fed.event ≡ None → fed.used ≡ length piece

-- What it tells over any units, it tells over the bytes that follow with the end mark and without it.
pub fed_by : {t : Table} {ids : List ℕ} {old new : Place} {piece : List ℕ} {from : ℕ} {fed : Fed}
    → Advances old new piece from fed → IsRead t ids old new piece from fed → IsFed t ids old new piece from fed
fed_by {t} {ids} {old} {new} {piece} {from} {fed} on read = record {
  low = on.low;
  high = on.high;
  stays_open = ap is_open on.still_open;
  taken = on.taken;
  tells = λ more are.
      ap (λ (s : Stage). events (told_over t ids old (units_to s (drop from piece ++ more)))) on.was_open
      ∙ ap (λ (units : List ℕ). events (told_over t ids old units)) (append_assoc (drop from piece) more (eoi ∷ []))
      ∙ read.tells (more ++ (eoi ∷ [])) (ended_word more are)
      ∙ ap (λ (units : List ℕ). with_event fed.event (events (told_over t ids new units)))
      (sym (append_assoc (drop fed.used piece) more (eoi ∷ [])))
      ∙ ap (λ (s : Stage). with_event fed.event
      (events (told_over t ids new (units_to s (drop fed.used piece ++ more))))) (sym on.still_open);
  tells_now = λ more are. grind (arith, common_steps, bytes_word);
  over = on.over;
  on_time = λ none.
      ap (λ (s : Stage). now_at s t ids old (drop from piece)) on.was_open
      ∙ ap (λ (units : List ℕ). events (told_over t ids old units)) (sym (append-nil (drop from piece)))
      ∙ read.tells [] IsWord-nil
      ∙ ap (λ (event : Option StreamEvent). with_event event
      (events (told_over t ids new (drop fed.used piece ++ [])))) none
      ∙ ap (λ (units : List ℕ). events (told_over t ids new units)) (append-nil (drop fed.used piece))
      ∙ ap (λ (n : ℕ). events (told_over t ids new (drop n piece))) (on.over none)
      ∙ ap (λ (units : List ℕ). events (told_over t ids new units)) (drop-length piece)
      ∙ read.on_time none;
}

open_here : {old here : Place} → old.stage ≡ Stage.Open → here ≡ old → here.stage ≡ Stage.Open
open_here was_open same = ap (λ (place : Place). place.stage) same ∙ was_open

none_here : (t : Table) (ids : List ℕ) {old here : Place} → IsNextPattern t ids old here None → pending t ids here ≡ []
none_here t ids is = ap (pending t ids) is.0 ∙ is.1

-- If none is left, a walk goes on from the same place.
module _ {t : Table} {ids : List ℕ} {old here : Place} {piece : List ℕ} {from : ℕ} (was_open : old.stage ≡ Stage.Open)
    (is : IsNextPattern t ids old here None) where
  from_here : {new : Place} {fed : Fed} → IsFed t ids here new piece from fed → IsFed t ids old new piece from fed
  from_here {new} {fed} = subst (λ (place : Place). IsFed t ids place new piece from fed) is.0

  pub fed_match : {next at : ℕ} → Standing t (row_of ids next)
      → MeetsMatch t (row_of ids here.row) piece from (row_of ids next) at
      → {found : HalfMatch} {k : ℕ} → k ≡ slice_index (patterns_of t (row_of ids next)) 0
      → found ≡ record { pattern = k; offset = here.taken + (at - from) }
      → IsFed t ids old (record here {
        row = next;
        told = 1;
        offset = here.taken + (at - from);
        taken = here.taken + (at - from) + 1;
      }) piece from (record { used = at + 1; event = Some (StreamEvent.Match found) })
  fed_match {next} {at} s met {found} {k} first told =
      let low = met.low in
      let high = met.high in
      let new : Place = record here {
        row = next;
        told = 1;
        offset = here.taken + (at - from);
        taken = here.taken + (at - from) + 1;
      } in
      from_here (subst (λ (h : HalfMatch). IsFed t ids here new piece from
      (record { used = at + 1; event = Some (StreamEvent.Match h) })) (sym told)
      (fed_by (record {
        low = omega arith;
        high = omega arith;
        was_open = open_here was_open is.0;
        still_open = open_here was_open is.0;
        taken = omega arith;
        over = λ e. absurd (cc);
      }) (reads_match t ids (none_here t ids is) s met k first)))

  pub fed_quit : AreBytes piece → {next byte at : ℕ} → Standing t (row_of ids next)
      → MeetsQuit t (row_of ids here.row) piece from (row_of ids next) byte at
      → IsFed t ids old (record here { row = next; taken = here.taken + (at - from) + 1 }) piece from
      (record { used = at + 1; event = Some (StreamEvent.Quit byte (here.taken + (at - from))) })
  fed_quit bytes {next} {byte} {at} s quit =
      let low = quit.low in
      let high = quit.high in
      from_here (fed_by (record {
        low = omega arith;
        high = omega arith;
        was_open = open_here was_open is.0;
        still_open = open_here was_open is.0;
        taken = omega arith;
        over = λ e. absurd (cc);
      }) (reads_quit t ids (none_here t ids is) bytes s quit))

  pub fed_all : {next : ℕ} → from ≤ length piece
      → IsQuietWalk t (row_of ids here.row) piece from (row_of ids next) (length piece)
      → IsFed t ids old (record here { row = next; taken = here.taken + (length piece - from) }) piece from
      (record { used = length piece; event = None })
  fed_all {next} h walk =
      from_here (fed_by (record {
        low = h;
        high = omega arith;
        was_open = open_here was_open is.0;
        still_open = open_here was_open is.0;
        taken = omega arith;
        over = λ e. refl;
      }) (reads_all t ids (none_here t ids is) h walk))
