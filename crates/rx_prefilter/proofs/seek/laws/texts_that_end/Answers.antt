use Rattle.rx_spec.proofs.Prelude.{◌≡◌, refl, arith, codes}
use Rattle.memchr.specs.Find.{OccursAt}
use Rattle.rx_prefilter.specs.LiteralExamples.{literal}
use Rattle.rx_prefilter.proofs.Examples as examples
use Rattle.rx_prefilter.proofs.seek.laws.texts_that_end.Goals as goal

pub returns-clause-at_the_end : goal.returns-clause-at_the_end
returns-clause-at_the_end c =
    record { count = refl; bytes = examples.text_bytes; first = examples.behind_the_first }

not_at_2 : OccursAt (codes "xaba") literal 2 → ⊥
not_at_2 at = omega (arith, at.reads 0 (omega arith))

pub returns-clause-cut_by_end : goal.returns-clause-cut_by_end
returns-clause-cut_by_end c = record {
  count = refl;
  bytes = search arith;
  first = λ k low less at. let here : k ≡ 2 = omega arith in not_at_2 (rw here at at);
}
