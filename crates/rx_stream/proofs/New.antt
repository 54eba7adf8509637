-- What a new searcher tells of a whole text.
use Rattle.rx_spec.proofs.Prelude.{common_steps, ◌≡◌, ℕ, ◌-◌, false, List, [], ◌∷◌, ◌++◌, refl, ap, sym, ◌∙◌, arith}
use Rattle.rx_spec.proofs.Prelude.{slice_get_past, eoi, row_of, Anchored, is_done, units_of, Table}
use Rattle.rx_spec.specs.declared.Direction.{Direction}
use Rattle.rx_lemmas.proofs.Overlapping.{overlapping_walks}
use Rattle.rx_search.specs.Labels.{label_patterns}
use Rattle.rx_search.specs.Starts.{IsStart}
use Rattle.rx_search.proofs.Standing.{Standing}
use Rattle.rx_search.proofs.Halves.{plain_start}
use Rattle.rx_stream.specs.Remaining.{events, pending, whole}
use Rattle.rx_stream.specs.Calls.{IsNew}
use Rattle.rx_stream.specs.Pieces.{walked}
use Rattle.rx_stream.specs.declared.place.Place.{Place}
use Rattle.rx_stream.specs.declared.place.Stage.{Stage}
use Rattle.rx_stream.proofs.Remaining.{none_pending}

pub not_done : (bytes : List ℕ) (mode : Anchored) → is_done (whole bytes mode) ≡ false
not_done bytes mode = grind (arith, common_steps)

-- all units of a whole text
whole_units : (bytes : List ℕ) (mode : Anchored) → units_of Direction.Forward (whole bytes mode) ≡ bytes ++ (eoi ∷ [])
whole_units bytes mode = grind (arith, common_steps, slice_get_past)

pub is_new : {t : Table} {ids : List ℕ} {mode : Anchored} (row : ℕ) → Standing t (row_of ids row)
    → IsStart t Direction.Forward (whole [] mode) (row_of ids row)
    → IsNew t ids mode (record { row = row; told = 0; offset = 0; taken = 0; stage = Stage.Open })
is_new {t} {ids} {mode} row s start =
    let place : Place = record { row = row; told = 0; offset = 0; taken = 0; stage = Stage.Open } in
    let none : pending t ids place ≡ [] = ap label_patterns (plain_start s.sound start) in
    record {
      supported = start.allowed;
      begins_open = refl;
      taken = refl;
      tells = λ bytes are.
          ap events (none_pending t ids place none (bytes ++ (eoi ∷ []))
          ∙ ap (walked t (row_of ids row) 0) (sym (whole_units bytes mode))
          ∙ ap (λ (r : ℕ). walked t r 0 (units_of Direction.Forward (whole bytes mode))) start.row_is
          ∙ sym (overlapping_walks t.machine t.settings Direction.Forward (whole bytes mode) (not_done bytes mode)
          start.allowed));
      tells_now = λ bytes. grind (arith, common_steps, none_pending);
    }
