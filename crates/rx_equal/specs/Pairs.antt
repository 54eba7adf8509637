-- Pairs of ids, and what calls of two tables answer of them.
use Rattle.std.specs.Prelude.{Bool, true, false, [], ◌∷◌, ◌++◌, ℕ, ◌≡◌, ◌≢◌, ◌<◌, ◌^◌, ◌+◌, ◌*◌, Some, Result, Ok}
use Rattle.std.specs.Prelude.{Err, List, Contains, IsTrue, ◌↔◌, nat_eq, map, All}
use Rattle.std.specs.HashSet.{contains}
use Rattle.rx_spec.specs.Ids.{row_of}
use Rattle.rx_spec.specs.Starts.{StartError}
use Rattle.rx_spec.specs.Tables.{Table}
use Rattle.rx_base.specs.StartConfig.{StartConfig}
use Rattle.rx_search.specs.Starts.{IsId}
use Rattle.rx_equal.specs.Partings.{answer_at}
use Rattle.rx_equal.specs.Evidence.{RowPair, start_pair}
use Rattle.rx_equal.specs.declared.pairs.Pair.{Pair}
use Rattle.rx_equal.specs.declared.pairs.Begin.{Begin}
use Rattle.rx_equal.specs.declared.pairs.PairSet.{PairSet}
use Rattle.rx_equal.specs.declared.pairs.Pairs.{Pairs}

-- an id of each table
pub record IsPairOf (ids others : List ℕ) (p : Pair) : Type 0 where
  pub first : IsId ids p.id
  pub second : IsId others p.other
  pub small : p.other < 2 ^ 32

abbrev pub rows_of : List ℕ → List ℕ → Pair → RowPair
rows_of ids others p = record { row = row_of ids p.id; other = row_of others p.other }

-- two answers that can't be alike: one alone is a row, or the refusals differ
abbrev pub AreApart : Result ℕ StartError → Result ℕ StartError → Type 0
AreApart (Ok x) (Ok y) = ⊥
AreApart (Err error) (Err other) = error ≢ other
AreApart (Ok x) (Err other) = Unit {0}
AreApart (Err error) (Ok y) = Unit {0}

-- both tables refuse a place alike
pub record AreRefused (t u : Table) (place : StartConfig) : Type 0 where
  pub error : StartError
  pub first : answer_at t place ≡ Err error
  pub second : answer_at u place ≡ Err error

-- how two tables begin at a place: at rows, refused alike, or otherwise
abbrev pub Begins : Table → List ℕ → Table → List ℕ → StartConfig → Begin → Type 0
Begins t ids u others place (Begin.Rows p) =
    (start_pair t u place ≡ Some (rows_of ids others p)) × IsPairOf ids others p
Begins t ids u others place Begin.Refused = AreRefused t u place
Begins t ids u others place Begin.Apart = AreApart (answer_at t place) (answer_at u place)

-- the key of a pair in a set
abbrev pub key_of : Pair → ℕ
key_of p = p.id * 2 ^ 32 + p.other

abbrev pub knows : PairSet → Pair → Type 0
knows set p = IsTrue (contains nat_eq set.keys (key_of p))

-- a set has those pairs of ids whose rows are pairs
abbrev pub Knows : List ℕ → List ℕ → PairSet → List RowPair → Type 0
Knows ids others set pairs =
    (p : Pair) → IsPairOf ids others p → knows set p ↔ Contains pairs (rows_of ids others p)

-- pairs as they are kept: the list of their rows, and what is known of them
abbrev pub pairs_of : List ℕ → List ℕ → Pairs → List RowPair
pairs_of ids others known = map (rows_of ids others) known.list.items

pub record AreKept (ids others : List ℕ) (known : Pairs) : Type 0 where
  pub are_ids : All (IsPairOf ids others) known.list.items
  pub set_is : Knows ids others known.set (pairs_of ids others known)

-- a pair is added where it isn't there
abbrev pub Adds : List RowPair → RowPair → Bool → List RowPair → Type 0
Adds before p true after = (¬ Contains before p) × (after ≡ before ++ p ∷ [])
Adds before p false after = Contains before p × (after ≡ before)

abbrev pub is_quit_error : StartError → Bool
is_quit_error (StartError.Quit byte) = true
is_quit_error (StartError.UnsupportedAnchored mode) = false
