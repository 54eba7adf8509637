-- What a call of `finish` tells and leaves.
use Rattle.rx_spec.proofs.Prelude.{arith, ◌≡◌, ℕ, ◌+◌, true, false, Some, None, List, [], ◌∷◌, refl, ap, sym, ◌∙◌}
use Rattle.rx_spec.proofs.Prelude.{subst, common_steps, eoi, row_of, HalfMatch, Ending, none_left, pattern_items}
use Rattle.rx_spec.proofs.Prelude.{with_items, Table, is_match}
use Rattle.rx_spec.specs.declared.Direction.{Direction}
use Rattle.rx_lemmas.proofs.Firsts.{by_test}
use Rattle.rx_lemmas.proofs.Overlapping.{overlapping-nil}
use Rattle.rx_lemmas.proofs.Tables.{match_alive}
use Rattle.rx_search.specs.Labels.{patterns_of}
use Rattle.rx_search.proofs.Standing.{Standing, match_label, plain_label, no_patterns}
use Rattle.rx_search.proofs.Walks.{Turn, eoi_no_quit}
use Rattle.rx_stream.specs.Remaining.{events, told_over, pending, units_to, remaining}
use Rattle.rx_stream.specs.Calls.{IsFinished, IsNextPattern, is_open, is_ended, closed}
use Rattle.rx_stream.specs.Pieces.{walked}
use Rattle.rx_stream.specs.declared.event.StreamEvent.{StreamEvent}
use Rattle.rx_stream.specs.declared.place.Place.{Place}
use Rattle.rx_stream.specs.declared.place.Stage.{Stage}
use Rattle.rx_stream.proofs.Pieces.{walk_turns}
use Rattle.rx_stream.proofs.Remaining.{none_pending, pattern_told}

-- ---- stages

ended_not_open : (s : Stage) → is_ended s ≡ true → is_open s ≡ false
ended_not_open Stage.Ended e = refl
ended_not_open _ e = absurd (cc)

same_units : (s : Stage) → units_to (closed s) [] ≡ units_to s []
same_units Stage.Open = refl
same_units _ = refl

no_unit : (s : Stage) → is_ended (closed s) ≡ true → units_to s [] ≡ []
no_unit Stage.Ended e = refl
no_unit _ e = absurd (cc)

end_mark : (s : Stage) → is_ended (closed s) ≡ false → units_to s [] ≡ eoi ∷ []
end_mark Stage.Ended e = absurd (cc)
end_mark _ e = refl

-- ---- a place where no more pieces come, and the one to which the end mark leads

abbrev pub closed_place : Place → Place
closed_place place = record place { stage = closed place.stage }

abbrev pub end_place : (row taken : ℕ) → Place
end_place row taken = record { row = row; told = 0; offset = taken; taken = taken; stage = Stage.Ended }

module _ (t : Table) (ids : List ℕ) (old : Place) where
  remains : remaining t ids old [] ≡ remaining t ids (closed_place old) []
  remains = ap (λ (units : List ℕ). events (told_over t ids old units)) (sym (same_units old.stage))

  -- none is left, and the end mark is read
  pub finish_over : {new : Place} → IsNextPattern t ids (closed_place old) new None → is_ended new.stage ≡ true
      → IsFinished t ids old new None
  finish_over {new} is ended = grind (arith, common_steps, ended_not_open, remains, no_unit, overlapping-nil)

-- ---- the end mark

-- No pattern is left at a place, and the end mark leads from its row to another.
pub record ReadsEnd (t : Table) (ids : List ℕ) (old : Place) (next : ℕ) : Type 0 where
  pub turn : Turn t (row_of ids old.row) eoi (row_of ids next)
  pub standing : Standing t (row_of ids old.row)
  pub none : pending t ids old ≡ []
  pub goes_on : is_ended (closed old.stage) ≡ false

module _ {t : Table} {ids : List ℕ} {old : Place} {next : ℕ} (r : ReadsEnd t ids old next) where
  end_told : walked t (row_of ids old.row) old.taken (eoi ∷ [])
      ≡ with_items (pattern_items (patterns_of t (row_of ids next)) old.taken) (none_left Ending.Ended)
  end_told =
      by_test (is_match t (row_of ids next))
      (λ is.
      let label = match_label (t.machine.label (row_of ids next)) is in
      walk_turns r.turn old.taken [] label
      (match_alive r.turn.standing.sound.is_table (row_of ids next) r.turn.standing.below label)
      ∙ ap (with_items (pattern_items (patterns_of t (row_of ids next)) old.taken))
      (overlapping-nil t.machine Direction.Forward (row_of ids next) (old.taken + 1)))
      (λ is.
      walk_turns r.turn old.taken [] (plain_label (t.machine.label (row_of ids next)) is
      (eoi_no_quit r.standing r.turn refl)) refl
      ∙ by_test (t.machine.is_dead (row_of ids next)) (λ dead. rw dead refl)
      (λ alive. rw alive (overlapping-nil t.machine Direction.Forward (row_of ids next) (old.taken + 1)))
      ∙ ap (λ (ks : List ℕ). with_items (pattern_items ks old.taken) (none_left Ending.Ended))
      (sym (no_patterns (t.machine.label (row_of ids next)) is)))

  end_remains : remaining t ids old [] ≡ remaining t ids (end_place next old.taken) []
  end_remains = grind (arith, common_steps, end_mark, none_pending, end_told, overlapping-nil)

  -- its row tells a pattern
  end_found : {new : Place} {found : HalfMatch} → IsNextPattern t ids (end_place next old.taken) new (Some found)
      → IsFinished t ids old new (Some (StreamEvent.Match found))
  end_found {new} {found} is = record {
    is_closed = ap (λ (place : Place). is_open place.stage) is.0;
    taken = ap (λ (place : Place). place.taken) is.0;
    tells = grind (arith, common_steps, end_remains, pattern_told);
    none = λ e. absurd (cc);
  }

  -- or none
  end_silent : {new : Place} → IsNextPattern t ids (end_place next old.taken) new None → IsFinished t ids old new None
  end_silent {new} is = record {
    is_closed = ap (λ (place : Place). is_open place.stage) is.0;
    taken = ap (λ (place : Place). place.taken) is.0;
    tells = end_remains ∙ ap (λ (place : Place). remaining t ids place []) (sym is.0);
    none = λ e. grind (arith, common_steps, end_remains, none_pending, overlapping-nil, row_of);
  }

-- The same from the place that is left once the text is closed and no pattern was found.
module _ {t : Table} {ids : List ℕ} {old here : Place} (is : IsNextPattern t ids (closed_place old) here None)
    (goes_on : is_ended here.stage ≡ false) (next : ℕ) (turn : Turn t (row_of ids here.row) eoi (row_of ids next))
    (s : Standing t (row_of ids here.row)) where
  reads_end : ReadsEnd t ids old next
  reads_end = record {
    turn = subst (λ (place : Place). Turn t (row_of ids place.row) eoi (row_of ids next)) is.0 turn;
    standing = subst (λ (place : Place). Standing t (row_of ids place.row)) is.0 s;
    none = is.1;
    goes_on = sym (ap (λ (place : Place). is_ended place.stage) is.0) ∙ goes_on;
  }

  pub finish_found : {new : Place} {found : HalfMatch}
      → IsNextPattern t ids (end_place next here.taken) new (Some found)
      → IsFinished t ids old new (Some (StreamEvent.Match found))
  finish_found {new} {found} told =
      end_found reads_end
      (subst (λ (place : Place). IsNextPattern t ids (end_place next place.taken) new (Some found)) is.0 told)

  pub finish_nothing : {new : Place} → IsNextPattern t ids (end_place next here.taken) new None
      → IsFinished t ids old new None
  finish_nothing {new} told =
      end_silent reads_end
      (subst (λ (place : Place). IsNextPattern t ids (end_place next place.taken) new None) is.0 told)
