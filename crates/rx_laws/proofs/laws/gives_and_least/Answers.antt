use Rattle.rx_lemmas.proofs.Labels.{IsLeast-unique}
use Rattle.rx_laws.proofs.laws.gives_and_least.Goals as goal

pub returns : goal.returns
returns c = record {
  each_word = λ t b. (λ gives. gives, λ gives. gives);
  least = λ b j k p q. IsLeast-unique p q;
}
