use Rattle.rx_spec.proofs.Prelude.{◌≡◌, suc, ◌+◌, false, inl, inr, refl, ap, ◌∙◌, arith, class_by, ends_class}
use Rattle.rx_lemmas.proofs.ClassNumbers.{class_zero, class_stays, class_moves, none_ends, one_class, class_of_all}
use Rattle.rx_lemmas.proofs.Firsts.{by_test}
use Rattle.rx_laws.proofs.laws.byte_classes.Goals as goal

pub returns : goal.returns
returns c = record {
  begin = class_zero;
  rise =
      λ ends b.
      let next : b + 1 ≡ suc b = omega arith in
      by_test (ends b)
      (λ e. inr (ap (class_by ends) next ∙ class_moves ends b e))
      (λ e. inl (ap (class_by ends) next ∙ class_stays ends b e));
  coarse = λ ends a b low. (none_ends ends a b, one_class ends a b low);
  all = λ nfa quit b. class_of_all (ends_class nfa quit false) (λ n. refl) b;
}
