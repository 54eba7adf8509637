-- What remains to be told over any units, and what a piece makes of it.
use Rattle.rx_spec.proofs.Prelude.{common_steps, ◌≡◌, ℕ, ◌+◌, ◌-◌, ◌<◌, ◌≤◌, Some, None, List, [], ◌∷◌, ◌++◌, length}
use Rattle.rx_spec.proofs.Prelude.{drop, ap, sym, ◌∙◌, arith, All-drop, slice_index, AreBytes, row_of, IsWord}
use Rattle.rx_spec.proofs.Prelude.{HalfMatch, Ending, none_left, pattern_items, with_items, Table, is_match}
use Rattle.std.proofs.Math.Seq.{drop-nil}
use Rattle.rx_spec.specs.declared.Direction.{Direction}
use Rattle.rx_lemmas.proofs.Firsts.{by_test}
use Rattle.rx_lemmas.proofs.Overlapping.{overlapping-nil}
use Rattle.rx_lemmas.proofs.Words.{IsWord-append}
use Rattle.rx_search.specs.Labels.{patterns_of, label_patterns}
use Rattle.rx_search.proofs.Standing.{Standing, quit_label}
use Rattle.rx_search.proofs.Halves.{some_pattern}
use Rattle.rx_search.proofs.Overlaps.{patterns_left, quit_tells_nothing}
use Rattle.rx_stream.specs.Remaining.{events, told_over, pending}
use Rattle.rx_stream.specs.Calls.{with_event, IsNextPattern}
use Rattle.rx_stream.specs.Pieces.{walked, IsQuietWalk, MeetsMatch, MeetsQuit}
use Rattle.rx_stream.specs.declared.event.Fed.{Fed}
use Rattle.rx_stream.specs.declared.event.StreamEvent.{StreamEvent}
use Rattle.rx_stream.specs.declared.place.Place.{Place}
use Rattle.rx_lemmas.proofs.ReadUnits.{bytes_word}

-- ---- patterns that are left

-- where none is left, all is told by the walk
pub none_pending : (t : Table) (ids : List ℕ) (place : Place) → pending t ids place ≡ [] → (units : List ℕ)
    → told_over t ids place units ≡ walked t (row_of ids place.row) place.taken units
none_pending t ids place e units = grind (arith, common_steps)

-- no pattern is left at a row that tells none
pub no_pending : (t : Table) (ids : List ℕ) (place : Place) → patterns_of t (row_of ids place.row) ≡ []
    → pending t ids place ≡ []
no_pending t ids place e = ap (drop place.told) e ∙ drop-nil place.told

-- ---- what a piece makes of what is told, whatever units follow

pub record IsRead (t : Table) (ids : List ℕ) (old new : Place) (piece : List ℕ) (from : ℕ) (fed : Fed) : Type 0 where
  pub tells : (more : List ℕ) → IsWord more
      → events (told_over t ids old (drop from piece ++ more))
      ≡ with_event fed.event (events (told_over t ids new (drop fed.used piece ++ more)))
  -- nothing is left to be told before more is read
  pub on_time : fed.event ≡ None → events (told_over t ids new []) ≡ []

module _ (t : Table) (ids : List ℕ) where
  pub pattern_told : (old new : Place) {found : HalfMatch} → IsNextPattern t ids old new (Some found)
      → (units : List ℕ)
      → events (told_over t ids old units) ≡ StreamEvent.Match found ∷ events (told_over t ids new units)
  pattern_told old new {found} is units = grind (arith, common_steps)

  module _ {old : Place} {piece : List ℕ} {from : ℕ} (none : pending t ids old ≡ []) where
    -- a match row that the walk met
    pub reads_match : {next at : ℕ} → Standing t (row_of ids next)
        → MeetsMatch t (row_of ids old.row) piece from (row_of ids next) at
        → (k : ℕ) → k ≡ slice_index (patterns_of t (row_of ids next)) 0
        → IsRead t ids old (record old {
          row = next;
          told = 1;
          offset = old.taken + (at - from);
          taken = old.taken + (at - from) + 1;
        }) piece from (record {
          used = at + 1;
          event = Some (StreamEvent.Match (record { pattern = k; offset = old.taken + (at - from) }));
        })
    reads_match {next} {at} s met k first = record {
      tells = λ more w.
          ap events (none_pending t ids old none (drop from piece ++ more) ∙ met.tells old.taken more w)
          ∙ ap (λ (ks : List ℕ). events (with_items (pattern_items ks offset)
          (walked t (row_of ids next) (offset + 1) (drop (at + 1) piece ++ more)))) patterns;
      on_time = λ e. absurd (cc);
    }
      where
        offset : ℕ
        offset = old.taken + (at - from)

        patterns : patterns_of t (row_of ids next) ≡ k ∷ drop 1 (patterns_of t (row_of ids next))
        patterns =
            patterns_left (patterns_of t (row_of ids next)) 0 (some_pattern s met.is_match)
            ∙ ap (λ (j : ℕ). j ∷ drop 1 (patterns_of t (row_of ids next))) (sym first)

    -- a quit byte
    pub reads_quit : {next byte at : ℕ} → AreBytes piece → Standing t (row_of ids next)
        → MeetsQuit t (row_of ids old.row) piece from (row_of ids next) byte at
        → IsRead t ids old (record old { row = next; taken = old.taken + (at - from) + 1 }) piece from (record {
          used = at + 1;
          event = Some (StreamEvent.Quit byte (old.taken + (at - from)));
        })
    reads_quit {next} {byte} {at} bytes s quit = record {
      tells = λ more w.
          ap events (none_pending t ids old none (drop from piece ++ more) ∙ quit.tells old.taken more w)
          ∙ ap (λ (later : List StreamEvent). StreamEvent.Quit byte (old.taken + (at - from)) ∷ later)
          (sym (ap events (none_pending t ids new no_more (drop (at + 1) piece ++ more) ∙ nothing more w)));
      on_time = λ e. absurd (cc);
    }
      where
        new : Place
        new = record old { row = next; taken = old.taken + (at - from) + 1 }

        no_more : pending t ids new ≡ []
        no_more = no_pending t ids new (ap label_patterns (quit_label (t.machine.label (row_of ids next)) quit.is_quit))

        nothing : (more : List ℕ) → IsWord more
            → walked t (row_of ids next) new.taken (drop (at + 1) piece ++ more) ≡ none_left Ending.Ended
        nothing more w =
            quit_tells_nothing s quit.is_quit Direction.Forward new.taken (drop (at + 1) piece ++ more)
            (IsWord-append (drop (at + 1) piece) more (bytes_word (drop (at + 1) piece)
            (All-drop (λ b. b < 256) (at + 1) piece bytes)) w)

    -- all of the piece, with nothing told
    pub reads_all : {next : ℕ} → from ≤ length piece
        → IsQuietWalk t (row_of ids old.row) piece from (row_of ids next) (length piece)
        → IsRead t ids old (record old { row = next; taken = old.taken + (length piece - from) }) piece from
        (record { used = length piece; event = None })
    reads_all {next} h walk = record {
      tells = λ more w. grind (arith, common_steps, none_pending);
      on_time = λ e. grind (arith, common_steps, none_pending, overlapping-nil, row_of);
    }
      where
        new : Place
        new = record old { row = next; taken = old.taken + (length piece - from) }

        no_more : pending t ids new ≡ []
        no_more = grind (arith, common_steps, by_test, is_match, row_of, no_pending)
