-- What refuses the table in reverse refuses the pair.
use Rattle.rx_spec.proofs.Prelude.{inr, List, Expression, Cause}
use Rattle.rx_build.specs.Builders.{Both}
use Rattle.rx_build.proofs.Beginnings.{refused_as}
use Rattle.rx_expr.specs.Refusals.{IsRefused}
use Rattle.rx_expr.specs.declared.build_error.BuildErrorKind.{BuildErrorKind}
use Rattle.rx_regex_builder.specs.Pairs.{PairRefused, in_reverse}

module _ (IsFit : Both → List Expression → Type 0) (IsOneRefused : Both → List Expression → Cause → Type 0) where
  pub reverse_refused : (both : Both) (es : List Expression) → IsFit both es → (kind : BuildErrorKind)
      → IsRefused (IsOneRefused (in_reverse both) es) kind → IsRefused (PairRefused IsFit IsOneRefused both es) kind
  reverse_refused both es fits kind =
      refused_as (IsOneRefused (in_reverse both) es) (PairRefused IsFit IsOneRefused both es)
      (λ cause r. inr (fits, r)) kind
