-- What is told before the end is a front of what is told, and from dead nothing is told.
use Rattle.rx_spec.proofs.Prelude.{arith, ◌≡◌, ℕ, ◌+◌, Bool, true, false, if◌then◌else◌, List, [], ◌∷◌, ◌++◌, refl, ap}
use Rattle.rx_spec.proofs.Prelude.{sym, ◌∙◌, subst, common_steps, append-nil, eoi, Label, IsWord, Item, Ending}
use Rattle.rx_spec.proofs.Prelude.{OverlappingMatches, none_left, at_item_label, pattern_items, with_items, Table}
use Rattle.rx_spec.specs.Overlapping.{label_items}
use Rattle.rx_spec.specs.declared.Direction.{Direction}
use Rattle.rx_lemmas.proofs.Overlapping.{overlapping-nil, overlapping-cons, overlapping_silent}
use Rattle.rx_lemmas.proofs.SilentRows.{zero_is_silent}
use Rattle.rx_lemmas.proofs.Words.{IsWord-nil}
use Rattle.rx_stream.specs.Remaining.{events, told_over, pending, units_to, now_at}
use Rattle.rx_stream.specs.Cuttings.{NowIsFront, DeadTellsNothing}
use Rattle.rx_stream.specs.Pieces.{walked}
use Rattle.rx_stream.specs.declared.place.Stage.{Stage}
use Rattle.rx_stream.specs.declared.event.StreamEvent.{StreamEvent}
use Rattle.rx_stream.proofs.Remaining.{none_pending}
use Rattle.rx_stream.proofs.Feed.{ended_word}

abbrev IsFront : List StreamEvent → List StreamEvent → Type 0
IsFront front all = (later : List StreamEvent) × (all ≡ front ++ later)

whole_front : (es : List StreamEvent) → IsFront es es
whole_front es = ([], sym (append-nil es))

items_front : (items : List Item) (a b : OverlappingMatches) → IsFront (events a) (events b)
    → IsFront (events (with_items items a)) (events (with_items items b))
items_front items a b front = grind (arith, common_steps)

walk_front : (t : Table) (row offset : ℕ) (units more : List ℕ)
    → IsFront (events (walked t row offset units)) (events (walked t row offset (units ++ more)))
walk_front t row offset [] more =
    subst (λ m. IsFront (events m) (events (walked t row offset more)))
    (sym (overlapping-nil t.machine Direction.Forward row offset)) (events (walked t row offset more), refl)
walk_front t row offset (unit ∷ units) more =
    subst (λ m. IsFront (events m) (events (walked t row offset (unit ∷ (units ++ more)))))
    (sym (overlapping-cons t.machine Direction.Forward row unit offset units))
    (subst (λ m. IsFront (events (on units)) (events m))
    (sym (overlapping-cons t.machine Direction.Forward row unit offset (units ++ more)))
    (by_label (t.machine.label (t.machine.next row unit)) (t.machine.is_dead (t.machine.next row unit))
    (walk_front t (t.machine.next row unit) (offset + 1) units more)))
  where
    at : Label → Bool → List ℕ → OverlappingMatches
    at label dead later =
        at_item_label label Direction.Forward unit offset
        (if dead then none_left Ending.Ended else walked t (t.machine.next row unit) (offset + 1) later)

    on : List ℕ → OverlappingMatches
    on later = at (t.machine.label (t.machine.next row unit)) (t.machine.is_dead (t.machine.next row unit)) later

    by_label : (label : Label) (dead : Bool)
        → IsFront (events (walked t (t.machine.next row unit) (offset + 1) units))
        (events (walked t (t.machine.next row unit) (offset + 1) (units ++ more)))
        → IsFront (events (at label dead units)) (events (at label dead (units ++ more)))
    by_label Label.Quits dead later = whole_front (events (at Label.Quits dead units))
    by_label Label.Plain true later = whole_front (events (at Label.Plain true units))
    by_label Label.Plain false later = later
    by_label (Label.Matches ks) true later = whole_front (events (at (Label.Matches ks) true units))
    by_label (Label.Matches ks) false later =
        items_front (label_items (Label.Matches ks) offset)
        (walked t (t.machine.next row unit) (offset + 1) units)
        (walked t (t.machine.next row unit) (offset + 1) (units ++ more)) later

pub now_is_front : NowIsFront
now_is_front t ids place bytes = by_stage place.stage
  where
    front : (more : List ℕ)
        → IsFront (events (told_over t ids place bytes)) (events (told_over t ids place (bytes ++ more)))
    front more = grind (arith, common_steps, items_front, pattern_items, walk_front)

    by_stage : (stage : Stage)
        → IsFront (now_at stage t ids place bytes) (events (told_over t ids place (units_to stage bytes)))
    by_stage Stage.Ended = (events (told_over t ids place []), refl)
    by_stage _ = front (eoi ∷ [])

pub dead_tells_nothing : DeadTellsNothing
dead_tells_nothing t ids place bytes is dead are = ap events (all (units_to place.stage bytes) (word place.stage))
  where
    none : pending t ids place ≡ []
    none = grind (arith, common_steps)

    word : (stage : Stage) → IsWord (units_to stage bytes)
    word Stage.Ended = IsWord-nil
    word _ = ended_word bytes are

    all : (units : List ℕ) → IsWord units → told_over t ids place units ≡ none_left Ending.Ended
    all units w =
        none_pending t ids place none units
        ∙ ap (λ (r : ℕ). walked t r place.taken units) dead
        ∙ overlapping_silent t.machine Direction.Forward 0 place.taken units w (zero_is_silent t is)
