use Rattle.rx_spec.proofs.Prelude.{arith, common_steps}
use Rattle.rx_lemmas.proofs.Tables.{leaving_exactly, leaving_rises, between_needles}
use Rattle.rx_laws.proofs.laws.needles.Goals as goal

pub returns : goal.returns
returns c = record {
  exactly = leaving_exactly;
  rise = leaving_rises;
  between = grind (arith, common_steps, between_needles);
}
