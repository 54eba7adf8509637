-- The first event, and a half search that stops at the first match.
use Rattle.rx_spec.proofs.Prelude.{arith, ◌≡◌, ℕ, ◌+◌, ◌<◌, true, if◌then◌else◌, None, Ok, List, [], ◌∷◌, refl, ap, sym}
use Rattle.rx_spec.proofs.Prelude.{◌∙◌, common_steps, Label, IsWord, at_label, last_match, walk, units_of, Ending}
use Rattle.rx_spec.proofs.Prelude.{none_left, at_item_label, overlapping_walk, Table, IsTable}
use Rattle.rx_spec.specs.declared.Direction.{Direction}
use Rattle.rx_spec.specs.declared.Start.{Start}
use Rattle.rx_lemmas.proofs.Firsts.{by_test}
use Rattle.rx_lemmas.proofs.HalfSearches.{half_walks}
use Rattle.rx_lemmas.proofs.Walking.{walk-nil, walk-cons}
use Rattle.rx_lemmas.proofs.Overlapping.{overlapping-nil, overlapping-cons, overlapping_walks}
use Rattle.rx_lemmas.proofs.Words.{IsWord-head, IsWord-tail}
use Rattle.rx_lemmas.proofs.ReadUnits.{units_word}
use Rattle.rx_stream.specs.Remaining.{events, whole}
use Rattle.rx_stream.specs.Cuttings.{first_answer, FirstIsEarliest}
use Rattle.rx_stream.proofs.New.{not_done}

first_walk : {t : Table} → IsTable t → (row offset : ℕ) (units : List ℕ) → row < t.size → IsWord units
    → walk t.machine Direction.Forward true row offset None units
    ≡ first_answer (events (overlapping_walk t.machine Direction.Forward row offset units))
first_walk {t} is row offset [] below w = grind (arith, common_steps, walk-nil, overlapping-nil)
first_walk {t} is row offset (unit ∷ units) below w =
    walk-cons t.machine Direction.Forward true row unit offset None units
    ∙ by_label (t.machine.label next) refl
    (first_walk is next (offset + 1) units next_below (IsWord-tail unit units w))
    ∙ ap (λ m. first_answer (events m)) (sym (overlapping-cons t.machine Direction.Forward row unit offset units))
  where
    next : ℕ
    next = t.machine.next row unit

    next_below : next < t.size
    next_below = is.nexts row unit below (IsWord-head unit units w)

    by_label : (label : Label) → t.machine.label next ≡ label
        → walk t.machine Direction.Forward true next (offset + 1) None units
        ≡ first_answer (events (overlapping_walk t.machine Direction.Forward next (offset + 1) units))
        → at_label (t.machine.label next) Direction.Forward true unit offset
        (Ok (last_match (t.machine.label next) offset None))
        (if t.machine.is_dead next then Ok (last_match (t.machine.label next) offset None)
        else walk t.machine Direction.Forward true next (offset + 1) (last_match (t.machine.label next) offset None)
        units)
        ≡ first_answer (events (at_item_label (t.machine.label next) Direction.Forward unit offset
        (if t.machine.is_dead next then none_left Ending.Ended
        else overlapping_walk t.machine Direction.Forward next (offset + 1) units)))
    by_label (Label.Matches []) e later = absurd (is.lists next next_below e)
    by_label Label.Plain e later = by_test (t.machine.is_dead next) (λ d. rw (e, d) refl) (λ d. rw (e, d) later)
    by_label _ e later = rw e refl

pub first_is_earliest : FirstIsEarliest
first_is_earliest t mode bytes is are supported =
    let q = record (whole bytes mode) { earliest = true } in
    let row = t.machine.entry mode Start.Text in
    half_walks t.machine t.settings Direction.Forward q (not_done bytes mode) supported
    ∙ first_walk is row 0 (units_of Direction.Forward (whole bytes mode)) (is.entries mode Start.Text)
    (units_word Direction.Forward (whole bytes mode) are)
    ∙ sym (ap (λ m. first_answer (events m))
    (overlapping_walks t.machine t.settings Direction.Forward (whole bytes mode) (not_done bytes mode) supported))
