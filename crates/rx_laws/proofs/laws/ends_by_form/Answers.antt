use Rattle.rx_spec.proofs.Prelude.{refl}
use Rattle.rx_lemmas.proofs.Ends.{ends_empty, ends_class, ends_assert, ends_concat, ends_alternate}
use Rattle.rx_laws.proofs.laws.ends_by_form.Goals as goal

pub returns : goal.returns
returns c = record {
  empty = ends_empty;
  byte_in_class = λ r set i byte there holds. rw (ends_class, there, holds) refl;
  byte_outside_class = λ r set i byte there holds. rw (ends_class, there, holds) refl;
  class_past_last = λ r set i there. rw (ends_class, there) refl;
  assertion_that_holds = λ r look i holds. rw (ends_assert, holds) refl;
  assertion_that_fails = λ r look i holds. rw (ends_assert, holds) refl;
  concat = ends_concat;
  alternate = ends_alternate;
}
