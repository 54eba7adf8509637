use Rattle.rx_spec.proofs.Prelude.{arith, common_steps}
use Rattle.rx_lemmas.proofs.ToldInSpan.{half_within, unsplit_within}
use Rattle.rx_lemmas.proofs.Joining.{join_orderly}
use Rattle.rx_laws.proofs.laws.told_in_span.Goals as goal

pub returns : goal.returns
returns c = record {
  half = grind (arith, common_steps, half_within);
  unsplit = λ t direction q h e. let is = unsplit_within t direction q h e in (is.from, is.upto);
  joined =
      λ f r.
      let is = join_orderly f r in
      record {
        none_when_done = is.none_when_done;
        lies = λ q m e. (let lies = is.lies q m e in (lies.from, lies.ordered, lies.upto));
      };
}
