-- Half searches that go on from where they stand.
use Rattle.rx_spec.proofs.Prelude.{◌≡◌, ◌≢◌, ◌∙◌, ℕ, false, None, List, ap, sym, first_offset, next_offset, units_of}
use Rattle.rx_spec.proofs.Prelude.{walk, AreIds, row_of, Query, IsFit, is_done, skips_splits, Table, IsSound}
use Rattle.rx_spec.specs.declared.Direction.{Direction}
use Rattle.rx_search.specs.Needles.{byte_ahead}
use Rattle.rx_search.specs.Starts.{IsId, IsStart}
use Rattle.rx_search.specs.Walks.{last_offset, units_left}
use Rattle.rx_search.proofs.Halves.{begun, by_stop, first_place, open_span, walk_stops}
use Rattle.rx_search.proofs.Standing.{standing}
use Rattle.rx_search.proofs.Walks.{Place, Step, next_place, ordinary, rest_whole, step_quiet, unaccelerated}
use Rattle.rx_pair.specs.UnderWay.{IsUnderWay}

module _ {t : Table} {ids : List ℕ} (sound : IsSound t) (are : AreIds t.size ids) (direction : Direction) {q : Query}
  where
    -- at the row of a start that tells nothing
    pub begins : (id : ℕ) → IsId ids id → IsStart t direction q (row_of ids id) → IsFit q → is_done q ≡ false
        → skips_splits t ≡ false → t.is_special (row_of ids id) ≡ false
        → IsUnderWay t ids direction q id (first_offset direction q)
    begins id is start fits goes whole plain =
        let s = standing id sound are is in
        record {
          is_id = is;
          in_span = (first_place direction (open_span fits goes)).in_span;
          no_needles = sound.no_needle (row_of ids id) s.below (unaccelerated s plain);
          answer =
              rw whole (begun start goes)
              ∙ ap (walk t.machine direction q.earliest (row_of ids id) (first_offset direction q) None)
              (sym (ap (units_of direction) (rest_whole direction q)));
        }

    -- one byte on, to a row that tells nothing either
    pub goes_on : {id offset : ℕ} → IsUnderWay t ids direction q id offset → IsFit q
        → offset ≢ last_offset direction q → (next : ℕ) → IsId ids next
        → row_of ids next ≡ t.machine.next (row_of ids id) (byte_ahead direction q.haystack offset)
        → t.is_special (row_of ids next) ≡ false
        → IsUnderWay t ids direction q next (next_offset direction offset)
    goes_on {id} {offset} u fits more next is leads plain =
        let s = standing next sound are is in
        let place : Place q offset = record { fits = fits.within; in_span = u.in_span } in
        let step : Step t direction q (row_of ids id) offset (row_of ids next) =
        record { place = place; more = more; turn = record { leads = leads; standing = s } } in
        record {
          is_id = is;
          in_span = (next_place direction place more).in_span;
          no_needles = sound.no_needle (row_of ids next) s.below (unaccelerated s plain);
          answer =
              u.answer
              ∙ walk_stops t.machine direction q.earliest None (row_of ids id) offset (units_left direction q offset)
              ∙ ap (by_stop t.machine direction q.earliest None) (step_quiet step (ordinary s plain))
              ∙ sym (walk_stops t.machine direction q.earliest None (row_of ids next) (next_offset direction offset)
              (units_left direction q (next_offset direction offset)));
        }
