-- Tables that nothing parts answer searches alike.
use Rattle.rx_spec.proofs.Prelude.{arith, ℕ, ◌≡◌, ◌<◌, ◌≤◌, Option, Some, None, Ok, List, [], refl, ap, sym, ◌∙◌}
use Rattle.rx_spec.proofs.Prelude.{common_steps, IfSome, AreBytes, Query, IsWord, StartError, start_error, start_row}
use Rattle.rx_spec.proofs.Prelude.{beside, half_search, first_offset, units_of, overlapping, Table, IsTable}
use Rattle.rx_spec.specs.declared.Direction.{Direction}
use Rattle.rx_lemmas.proofs.HalfSearches.{Begins, Done, Refused, Started, begins, half_walks, going}
use Rattle.rx_lemmas.proofs.Overlapping.{overlapping_walks}
use Rattle.rx_lemmas.proofs.ReadUnits.{beside_is_byte, units_word}
use Rattle.rx_lemmas.proofs.SilentRows.{IsRow, table_ends_well}
use Rattle.rx_lemmas.proofs.Words.{IsWord-nil}
use Rattle.rx_meaning.proofs.AlikeRows.{Alike, walk_alike, overlapping_alike as rows_overlapping}
use Rattle.rx_base.specs.StartConfig.{StartConfig}
use Rattle.rx_equal.specs.Partings.{IsModeOf, NothingParts, AreAlikeBy, row_or}
use Rattle.rx_equal.specs.Searches.{HalfAlike, OverlappingAlike}

is_byte : (o : Option ℕ) → ((b : ℕ) → o ≡ Some b → b < 256) → IfSome o (λ byte. byte < 256)
is_byte None h = tt
is_byte (Some b) h = h b refl

-- how two searches begin: both are refused alike, or both walk from rows that are alike
pub data BeginAlike (t u : Table) (place : StartConfig) : Type 0 where
  Both : start_error t.settings place.beside place.mode ≡ None → start_error u.settings place.beside place.mode ≡ None
      → ((word : List ℕ) → IsWord word → AreAlikeBy t u word
      (Ok (start_row t.machine t.settings place.beside place.mode))
      (Ok (start_row u.machine u.settings place.beside place.mode)))
      → BeginAlike t u place
  Neither : (error : StartError) → start_error t.settings place.beside place.mode ≡ Some error
      → start_error u.settings place.beside place.mode ≡ Some error → BeginAlike t u place

by_errors : (t u : Table) (place : StartConfig) (o p : Option StartError)
    → start_error t.settings place.beside place.mode ≡ o → start_error u.settings place.beside place.mode ≡ p
    → ((word : List ℕ) → IsWord word → AreAlikeBy t u word
    (row_or o (start_row t.machine t.settings place.beside place.mode))
    (row_or p (start_row u.machine u.settings place.beside place.mode)))
    → BeginAlike t u place
by_errors t u place None None e f alike = Both e f alike
by_errors t u place (Some error) (Some other) e f alike =
    Neither error e (f ∙ ap (λ x. Some x) (sym (alike [] IsWord-nil)))
by_errors t u place None (Some other) e f alike = absurd (alike [] IsWord-nil)
by_errors t u place (Some error) None e f alike = absurd (alike [] IsWord-nil)

module _ (t u : Table) (is : IsTable t) (other_is : IsTable u) (nothing : NothingParts t u) (direction : Direction)
    (q : Query) (bytes : AreBytes q.haystack) (mode : IsModeOf t u q.mode) where
  begin_alike : BeginAlike t u (record { beside = beside direction q; mode = q.mode })
  begin_alike =
      by_errors t u (record { beside = beside direction q; mode = q.mode })
      (start_error t.settings (beside direction q) q.mode) (start_error u.settings (beside direction q) q.mode) refl
      refl
      (λ word w. nothing (record { beside = beside direction q; mode = q.mode })
      (record { mode = mode; beside = is_byte (beside direction q) (λ b e. beside_is_byte direction q b bytes e) })
      word w)

  rows_alike : ((word : List ℕ) → IsWord word → AreAlikeBy t u word
      (Ok (start_row t.machine t.settings (beside direction q) q.mode))
      (Ok (start_row u.machine u.settings (beside direction q) q.mode)))
      → Alike t.machine u.machine (IsRow t) (IsRow u) (start_row t.machine t.settings (beside direction q) q.mode)
      (start_row u.machine u.settings (beside direction q) q.mode)
  rows_alike alike = record { inside = is.entries q.mode _; within = other_is.entries q.mode _; labels = alike }

  half_by : q.start ≤ q.end → BeginAlike t u (record { beside = beside direction q; mode = q.mode })
      → half_search t.machine t.settings direction q ≡ half_search u.machine u.settings direction q
  half_by order (Both e f alike) =
      half_walks t.machine t.settings direction q (going q order) e
      ∙ walk_alike (table_ends_well t is) (table_ends_well u other_is) direction q.earliest (rows_alike alike)
      (units_of direction q) (units_word direction q bytes) (first_offset direction q) None
      ∙ sym (half_walks u.machine u.settings direction q (going q order) f)
  half_by order (Neither error e f) = grind (arith, common_steps)

  overlapping_by : q.start ≤ q.end → BeginAlike t u (record { beside = beside direction q; mode = q.mode })
      → overlapping t.machine t.settings direction q ≡ overlapping u.machine u.settings direction q
  overlapping_by order (Both e f alike) =
      overlapping_walks t.machine t.settings direction q (going q order) e
      ∙ rows_overlapping (table_ends_well t is) (table_ends_well u other_is) direction (rows_alike alike)
      (units_of direction q) (units_word direction q bytes) (first_offset direction q)
      ∙ sym (overlapping_walks u.machine u.settings direction q (going q order) f)
  overlapping_by order (Neither error e f) = grind (arith, common_steps)

  half_start : Begins t.settings direction q
      → half_search t.machine t.settings direction q ≡ half_search u.machine u.settings direction q
  half_start (Done past) = grind (arith, common_steps)
  half_start (Refused order error e) = half_by order begin_alike
  half_start (Started order e) = half_by order begin_alike

  overlapping_start : Begins t.settings direction q
      → overlapping t.machine t.settings direction q ≡ overlapping u.machine u.settings direction q
  overlapping_start (Done past) = grind (arith, common_steps)
  overlapping_start (Refused order error e) = overlapping_by order begin_alike
  overlapping_start (Started order e) = overlapping_by order begin_alike

pub half_alike : HalfAlike
half_alike t u is other_is nothing direction q bytes mode =
    half_start t u is other_is nothing direction q bytes mode (begins t.settings direction q)

pub overlapping_alike : OverlappingAlike
overlapping_alike t u is other_is nothing direction q bytes mode =
    overlapping_start t u is other_is nothing direction q bytes mode (begins t.settings direction q)
