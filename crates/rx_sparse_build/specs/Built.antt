-- The sparse tables that are built by some settings, of an NFA or of expressions (`IsSparse`), and the causes that
-- refuse a build.
use Rattle.std.specs.Prelude.{◌≡◌, ◌≤◌, List, length}
use Rattle.rx_spec.specs.Causes.{BuildFits, BuildRefused, Limits, NfaRefused, max_id}
use Rattle.rx_spec.specs.Expressions.{Expression}
use Rattle.rx_spec.specs.Nfas.{Nfa}
use Rattle.rx_spec.specs.Causes.{Cause}
use Rattle.rx_spec.specs.declared.Form.{Form}
use Rattle.rx_dense.specs.Layouts.{IsShaped, Layout as Dense}
use Rattle.rx_expr.specs.Compiles.{Fits, wanted_nfa}
use Rattle.rx_expr.specs.Settings as thompson
use Rattle.rx_build.specs.Built.{IsBuilt, build_of, limits_of}
use Rattle.rx_build.specs.Settings.{Settled}
use Rattle.rx_sparse.specs.Layouts.{Stored}
use Rattle.rx_sparse.specs.Sparse.{little_sparse_of, sparse_len}

-- The table is the sparse one of a dense table that is built, and its rows have no more bytes than there are ids.
pub record IsSparse (s : Settled) (nfa : Nfa) (t : Stored) : Type 0 where
  pub dense : Dense
  pub shaped : IsShaped dense
  pub built : IsBuilt s nfa dense
  pub short : sparse_len dense ≤ max_id
  pub sparse : t ≡ little_sparse_of dense

-- its limits: those of the dense table, and that its rows have no more bytes than there are ids
abbrev pub sparse_limits : Settled → Limits
sparse_limits s = record (limits_of s) { form = Form.Sparse }

-- ---- of expressions

-- the NFA of expressions, or else their table, is refused
abbrev pub Refused : Settled → thompson.Asked → List Expression → Cause → Type 0
Refused s a es (Cause.NFA cause) = NfaRefused (thompson.settled a).size_limit (length es) (wanted_nfa a es) cause
Refused s a es (Cause.DFA cause) =
    Fits a es × BuildRefused (sparse_limits s) (build_of s (wanted_nfa a es)) cause

-- nothing refuses them
pub record AreFit (s : Settled) (a : thompson.Asked) (es : List Expression) : Type 0 where
  pub nfa : Fits a es
  pub build : BuildFits (sparse_limits s) (build_of s (wanted_nfa a es))
