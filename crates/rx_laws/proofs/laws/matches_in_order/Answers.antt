use Rattle.rx_spec.proofs.Prelude.{arith, common_steps, Query, Answer}
use Rattle.rx_laws.specs.SearchesLaws as laws
use Rattle.rx_lemmas.proofs.Iterating.{IsOrderly, matches_uncut, matches_again, matches_lie, matches_rise}
use Rattle.rx_laws.proofs.laws.matches_in_order.Goals as goal

orderly : (search : Query → Answer) → laws.IsOrderly search → IsOrderly search
orderly search is = grind (arith, common_steps)

pub returns : goal.returns
returns c = record {
  uncut = λ search n q last_end is h. matches_uncut (orderly search is) n q last_end h;
  again = λ search q last_end is. matches_again (orderly search is) q last_end;
  lie = grind (arith, common_steps, matches_lie);
  rise = λ search q is. matches_rise (orderly search is) q;
}
