-- What refuses a sparse table: what refuses its dense one, or that its rows are too long.
use Rattle.rx_spec.proofs.Prelude.{arith, ◌≡◌, ℕ, ◌<◌, ◌≤◌, Bool, true, false, if◌then◌else◌, List, inr, refl, ap}
use Rattle.rx_spec.proofs.Prelude.{subst, common_steps, Result, Ok, Err, IfOk, IfErr, OnOk, Build, BuildFits, Exceeds}
use Rattle.rx_spec.proofs.Prelude.{max_id, Expression, Nfa, sparse_bound, sparse_size, State}
use Rattle.rx_expr.specs.Refusals.{IsRefused, TableRefused}
use Rattle.rx_expr.specs.declared.build_error.BuildError.{BuildError}
use Rattle.rx_expr.specs.declared.build_error.BuildErrorKind.{BuildErrorKind}
use Rattle.rx_dense.specs.Layouts.{IsShaped, Layout}
use Rattle.rx_expr.specs.Compiles.{Fits, wanted_nfa}
use Rattle.rx_expr.specs.Settings as thompson
use Rattle.rx_build.specs.Built as dense
use Rattle.rx_build.specs.Built.{IsBuilt, build_of, limits_of}
use Rattle.rx_build.specs.Settings.{Settled}
use Rattle.rx_build.proofs.Beginnings.{refused_as}
use Rattle.rx_sparse.specs.Layouts.{Stored}
use Rattle.rx_sparse.specs.Sparse.{IsTooLong, little_sparse_of, sparse_len}
use Rattle.rx_sparse_build.specs.Measured.{IsBounded, IsMeasured}
use Rattle.rx_sparse_build.proofs.Bounds.{too_long as bound_too_long}
use Rattle.rx_sparse_build.proofs.Lengths.{fits as fits_rows, too_long}
use Rattle.rx_sparse_build.specs.Built.{IsSparse, Refused, sparse_limits}

-- ---- the length of the rows

-- two lists of limits that differ in the size by a choice
abbrev chosen : (b : Build) → (byte_classes accelerate minimize : Bool) → List State → ℕ
chosen b byte_classes accelerate minimize states =
    if minimize then sparse_bound b byte_classes states else sparse_size b byte_classes accelerate states

module _ (s : Settled) (nfa : Nfa) (l : Layout) (shaped : IsShaped l) (is : IsBuilt s nfa l) where
  abbrev b : Build
  b = build_of s nfa

  measured : s.minimize ≡ false → IsMeasured b s.byte_classes s.accelerate l
  measured e = record {
    shaped = shaped;
    sound = is.in_order.sound;
    classes = ap (λ (m : Layout). m.classes) is.rest;
    power = is.power e;
    accelerated = is.accelerated;
  }

  bounded : s.minimize ≡ true → IsBounded b s.byte_classes l
  bounded e = record {
    shaped = shaped;
    sound = is.in_order.sound;
    classes = ap (λ (m : Layout). m.classes) is.rest;
    gives = is.gives;
    reached = is.reached;
    apart = is.apart e;
  }

  by_choice : (minimize : Bool) → s.minimize ≡ minimize → max_id < sparse_len l
      → Exceeds b (chosen b s.byte_classes s.accelerate minimize) max_id
  by_choice false e h = too_long (measured e) h
  by_choice true e h = bound_too_long (bounded e) h

  pub too_long_refused : BuildFits (limits_of s) b → (kind : BuildErrorKind) → IsTooLong (sparse_len l) kind
      → IsRefused (TableRefused (sparse_limits s) b) kind
  too_long_refused fits BuildErrorKind.Memory r = tt
  too_long_refused fits BuildErrorKind.TooManyStates r =
      ((λ un. un.lacks (fits.supported un.looks)), inr ((refl, by_choice s.minimize refl r)))
  too_long_refused fits _ r = absurd r

  -- ---- the table, made sparse

  pub made : (r : Result Stored BuildError) → IfOk r (λ t. t ≡ little_sparse_of l) → OnOk r (sparse_len l ≤ max_id)
      → IfOk r (IsSparse s nfa)
  made (Ok t) e h = record { dense = l; shaped = shaped; built = is; short = h; sparse = e }
  made (Err error) e h = tt

  pub all_fit : (r : Result Stored BuildError) → BuildFits (limits_of s) b → OnOk r (sparse_len l ≤ max_id)
      → OnOk r (BuildFits (sparse_limits s) b)
  all_fit (Ok t) fits h = record {
    supported = fits.supported;
    states = fits.states;
    rows = λ e rows.
        fits_rows (measured e) h
        (subst (λ m. Exceeds b (chosen b s.byte_classes s.accelerate m) max_id) e rows.1);
    patterns = fits.patterns;
    table = fits.table;
    construction = fits.construction;
  }
  all_fit (Err error) fits h = tt

  pub made_refused : (r : Result Stored BuildError) → BuildFits (limits_of s) b
      → IfErr r (λ error. IsTooLong (sparse_len l) error.kind)
      → IfErr r (λ error. IsRefused (TableRefused (sparse_limits s) b) error.kind)
  made_refused (Ok t) fits h = tt
  made_refused (Err error) fits h = too_long_refused fits error.kind h

-- a table of expressions whose NFA fits
pub table_of_exprs_refused : (s : Settled) (a : thompson.Asked) (es : List Expression) → Fits a es
    → (kind : BuildErrorKind)
    → IsRefused (TableRefused (sparse_limits s) (build_of s (wanted_nfa a es))) kind
    → IsRefused (Refused s a es) kind
table_of_exprs_refused s a es fits = grind (arith, common_steps, refused_as)
