-- What a half search tells lies in the span of its query.
use Rattle.rx_spec.proofs.Prelude.{arith, ◌≡◌, common_steps, IfOk, IfSome, Query, HalfAnswer, half_search, half_unsplit}
use Rattle.rx_spec.proofs.Prelude.{Table}
use Rattle.rx_spec.specs.declared.Direction.{Direction}
use Rattle.rx_lemmas.proofs.ToldInSpan.{half_within, unsplit_within}
use Rattle.rx_search.specs.Walks.{IsInSpan}

abbrev LiesIn : Query → HalfAnswer → Type 0
LiesIn q answer = IfOk answer (λ found. IfSome found (λ h. IsInSpan q h.offset))

module _ (t : Table) (direction : Direction) (q : Query) (answer : HalfAnswer) where
  pub half_in_span : answer ≡ half_search t.machine t.settings direction q → LiesIn q answer
  half_in_span is = grind (arith, common_steps, half_within)

  pub unsplit_in_span : answer ≡ half_unsplit t direction q → LiesIn q answer
  unsplit_in_span is = grind (arith, common_steps, unsplit_within)
