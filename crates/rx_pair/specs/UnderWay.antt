-- Half searches that stand in the middle of their span.
use Rattle.std.specs.Prelude.{◌≡◌, ℕ, None, List, []}
use Rattle.rx_spec.specs.HalfSearches.{walk}
use Rattle.rx_spec.specs.Ids.{row_of}
use Rattle.rx_spec.specs.Queries.{Query}
use Rattle.rx_spec.specs.Splits.{half_unsplit}
use Rattle.rx_spec.specs.Tables.{Table}
use Rattle.rx_spec.specs.declared.Direction.{Direction}
use Rattle.rx_search.specs.Starts.{IsId}
use Rattle.rx_search.specs.Walks.{IsInSpan, units_left}

-- A half search stands at the id of a row without needles and at an offset, and told no match up to there: what is
-- left of its walk tells its whole answer.
pub record IsUnderWay (t : Table) (ids : List ℕ) (direction : Direction) (q : Query) (id offset : ℕ) : Type 0 where
  pub is_id : IsId ids id
  pub in_span : IsInSpan q offset
  pub no_needles : t.needles (row_of ids id) ≡ []
  pub answer : half_unsplit t direction q
      ≡ walk t.machine direction q.earliest (row_of ids id) offset None (units_left direction q offset)
