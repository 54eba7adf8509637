-- The joined search of two tables finds nothing for a done query, and else only what lies in the query's span.
use Rattle.rx_spec.proofs.Prelude.{common_steps, Bool, arith, Query, HalfAnswer, half_unsplit, joined_search, join}
use Rattle.rx_spec.proofs.Prelude.{Table}
use Rattle.rx_spec.specs.declared.Direction.{Direction}
use Rattle.rx_lemmas.proofs.ToldInSpan.{TellsWithin, unsplit_within, unsplit_when_done}
use Rattle.rx_lemmas.proofs.Iterating.{IsOrderly}
use Rattle.rx_lemmas.proofs.Splits.{NoneWhenDone}

-- two half searches that keep to the span of their query
pub record KeepToSpan (search_forward search_reverse : Query → HalfAnswer) : Type 0 where
  pub none_when_done : NoneWhenDone search_forward
  pub forward : TellsWithin search_forward
  pub reverse : TellsWithin search_reverse

module _ {search_forward search_reverse : Query → HalfAnswer} (keep : KeepToSpan search_forward search_reverse)
    (always_anchored : Bool) where
  pub joined_orderly : IsOrderly (joined_search search_forward search_reverse always_anchored)
  joined_orderly = grind (arith, common_steps)

pub join_orderly : (f r : Table) → IsOrderly (join f r)
join_orderly f r = joined_orderly keep f.is_always_start_anchored
  where
    keep : KeepToSpan (half_unsplit f Direction.Forward) (half_unsplit r Direction.Reverse)
    keep = record {
      none_when_done = unsplit_when_done f Direction.Forward;
      forward = unsplit_within f Direction.Forward;
      reverse = unsplit_within r Direction.Reverse;
    }
