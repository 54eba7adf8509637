-- The matches that the tables of a plan tell one after another.
use Rattle.rx_spec.proofs.Prelude.{arith, ◌≡◌, ◌-◌, Ok, Err, List, Result, All, IfOk, refl, common_steps, Expression}
use Rattle.rx_spec.proofs.Prelude.{iterate, Query, Match, MatchError, LiesIn}
use Rattle.rx_plan.specs.Plans.{Plan, outcome}
use Rattle.rx_meaning.proofs.IteratedSearches.{from, iterate_alike}
use Rattle.rx_image.specs.Pairs.{Pair}
use Rattle.rx_regex.specs.Pairs.{AreTables, joined, whole}
use Rattle.rx_regex.proofs.Searches.{Searched, outcome_by}

pub iterated_by : {p : Plan} {es : List Expression} {pair : Pair} → AreTables p es pair → (q : Query) → Searched q
    → iterate (joined pair) (whole q) ≡ iterate (outcome p es) q
iterated_by {p} {es} {pair} t q s =
    iterate_alike (joined pair) (outcome p es) (whole q) q
    (λ start. outcome_by t (from q start) (record { bytes = s.bytes; within = s.within })) refl refl

-- ---- where they lie

lies_in : (q : Query) (item : Result Match MatchError) → IfOk item (LiesIn (whole q)) → IfOk item (LiesIn q)
lies_in q (Ok m) lies = record { low = lies.low; ordered = lies.ordered; high = lies.high }
lies_in q (Err error) lies = tt

pub lie_in : (q : Query) (found : List (Result Match MatchError)) → All (λ item. IfOk item (LiesIn (whole q))) found
    → All (λ item. IfOk item (LiesIn q)) found
lie_in q found = grind (arith, common_steps, lies_in)
