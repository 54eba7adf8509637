-- Two searches that answer alike from each start give the same matches one after another.
use Rattle.rx_spec.proofs.Prelude.{arith, ◌≡◌, ◌-◌, ℕ, zero, suc, Option, Some, None, Ok, Err, refl, common_steps}
use Rattle.rx_spec.proofs.Prelude.{unless_repeat, iterate_from, iterate, Answer, Query}
use Rattle.rx_lemmas.proofs.FoundLaws.{and_then-same}

abbrev pub from : Query → ℕ → Query
from q start = record q { start = start }

-- the second search may ask for something else than the first
module _ (f g : Query → Answer) (q r : Query) (alike : (start : ℕ) → f (from q start) ≡ g (from r start)) where
  unrepeated_alike : (start : ℕ) (last_end : Option ℕ) (answer : Answer)
      → unless_repeat f (from q start) last_end answer ≡ unless_repeat g (from r start) last_end answer
  unrepeated_alike start last_end (Ok (Some m)) = grind (arith, common_steps)
  unrepeated_alike start last_end (Ok None) = refl
  unrepeated_alike start last_end (Err error) = refl

  iterate_from_alike : (n start : ℕ) (last_end : Option ℕ)
      → iterate_from f n (from q start) last_end ≡ iterate_from g n (from r start) last_end
  unfolding iterate_from
  iterate_from_alike zero start last_end = refl
  iterate_from_alike (suc n) start last_end =
      grind (arith, common_steps, unrepeated_alike, and_then-same, iterate_from_alike n)

  pub iterate_alike : q.start ≡ r.start → q.end ≡ r.end → iterate f q ≡ iterate g r
  iterate_alike start end = grind (arith, common_steps, iterate_from_alike)
