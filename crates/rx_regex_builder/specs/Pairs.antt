-- The two tables of a list of expressions, dense or sparse, and the causes that refuse them.
use Rattle.std.specs.Prelude.{true, false, Some, List, ◌⊎◌}
use Rattle.rx_spec.specs.Expressions.{Expression}
use Rattle.rx_spec.specs.Causes.{Cause}
use Rattle.rx_spec.specs.declared.Direction.{Direction}
use Rattle.rx_spec.specs.declared.MatchKind.{MatchKind}
use Rattle.rx_spec.specs.declared.StartKind.{StartKind}
use Rattle.rx_dense.specs.Layouts.{Layout}
use Rattle.rx_expr.specs.Compiles.{wanted_nfa}
use Rattle.rx_build.specs.Builders.{Both}
use Rattle.rx_build.specs.Built as dense
use Rattle.rx_build.specs.Settings as settings
use Rattle.rx_build.specs.Settings.{settled}
use Rattle.rx_expr.specs.Settings as thompson
use Rattle.rx_sparse.specs.Layouts.{Stored}
use Rattle.rx_sparse_build.specs.Built as sparse
use Rattle.rx_regex_builder.specs.declared.builder.Builder.{Builder}

-- the settings of both tables
abbrev pub both_of : Builder → Both
both_of b = record { dense = settings.asked b.dense; thompson = thompson.asked b.thompson }

-- what a new builder of tables has that takes these settings
abbrev pub taken : settings.Asked → thompson.Asked → Both
taken tables nfas = record {
  dense = settings.overwritten settings.nothing_asked tables;
  thompson = thompson.overwritten thompson.nothing_asked nfas;
}

-- The table in reverse is of mirrored expressions, and tells of every match, from a known end: its searches are
-- anchored, and its start rows have no marks.
abbrev pub reverse_tables : settings.Asked
reverse_tables = record settings.nothing_asked {
  match_kind = Some MatchKind.All;
  start_kind = Some StartKind.Anchored;
  mark_starts = Some false;
}

abbrev pub reverse_nfa : thompson.Asked
reverse_nfa = record thompson.nothing_asked { reverse = Some true }

-- This stands in place of what was asked for.
abbrev pub in_reverse : Both → Both
in_reverse both = record {
  dense = settings.overwritten both.dense reverse_tables;
  thompson = thompson.overwritten both.thompson reverse_nfa;
}

-- the settings of the table that is searched in a direction
abbrev pub in_direction : Direction → Both → Both
in_direction Direction.Forward both = both
in_direction Direction.Reverse both = in_reverse both

-- ---- one table of these expressions, by these settings

abbrev pub IsOf : Both → List Expression → Layout → Type 0
IsOf both es l = dense.IsBuilt (settled both.dense) (wanted_nfa both.thompson es) l

-- nothing refuses it
abbrev pub IsFitBy : Both → List Expression → Type 0
IsFitBy both es = dense.AreFit (settled both.dense) both.thompson es

abbrev pub IsRefusedBy : Both → List Expression → Cause → Type 0
IsRefusedBy both es cause = dense.Refused (settled both.dense) both.thompson es cause

-- ---- a sparse one: there is one more cause that refuses it

abbrev pub IsSparseOf : Both → List Expression → Stored → Type 0
IsSparseOf both es t = sparse.IsSparse (settled both.dense) (wanted_nfa both.thompson es) t

abbrev pub IsSparseFitBy : Both → List Expression → Type 0
IsSparseFitBy both es = sparse.AreFit (settled both.dense) both.thompson es

abbrev pub IsSparseRefusedBy : Both → List Expression → Cause → Type 0
IsSparseRefusedBy both es cause = sparse.Refused (settled both.dense) both.thompson es cause

-- ---- two tables of either form

pub record AreBuilt {T : Type 0} (IsOne : Both → List Expression → T → Type 0) (both : Both) (es : List Expression)
    (f r : T) : Type 0 where
  pub forward : IsOne both es f
  pub reverse : IsOne (in_reverse both) es r

-- nothing refuses either
pub record AreBothFit (IsFit : Both → List Expression → Type 0) (both : Both) (es : List Expression) : Type 0 where
  pub forward : IsFit both es
  pub reverse : IsFit (in_reverse both) es

-- the forward table is refused, or else the one in reverse
abbrev pub PairRefused : (Both → List Expression → Type 0) → (Both → List Expression → Cause → Type 0) → Both
    → List Expression → Cause → Type 0
PairRefused IsFit IsRefused both es cause =
    IsRefused both es cause ⊎ (IsFit both es × IsRefused (in_reverse both) es cause)
