-- The rows of the definitions that the rows of the code mean, and facts of them that an NFA keeps.
use Rattle.std.specs.Prelude.{ℕ, zero, suc, ◌≡◌, ◌<◌, ◌≤◌, ◌==◌, ◌+◌, ◌*◌, Bool, false, List, length}
use Rattle.std.proofs.Common.{ap}
use Rattle.std.specs.Coded.{×_prop, Π_prop, Unit-prop}
use Rattle.std.specs.List.{list_any}
use Rattle.rx_spec.specs.Bytes.{contains}
use Rattle.rx_spec.specs.Causes.{id_count}
use Rattle.rx_spec.specs.Classes.{row_parts}
use Rattle.rx_spec.specs.Rows as rows
use Rattle.rx_spec.specs.States.{row_at}
use Rattle.rx_spec.specs.Shallow.{AllNext, Short, IsShallow}
use Rattle.rx_spec.specs.declared.Look.{Look}
use Rattle.rx_base.specs.LookSet.{holds_look, look_number}
use Rattle.rx_expr.specs.declared.thompson.nfa.Row.{Row}

abbrev pub row_of : Row → rows.Row
row_of (Row.Bytes set next) = rows.Bytes (set) next
row_of (Row.Split first second) = rows.Split first second
row_of (Row.Look look next) = rows.Look look next
row_of (Row.Match pattern) = rows.Match pattern
row_of Row.Fail = rows.Fail

-- whether a row has an assertion, and whether some of the rows has
abbrev pub asserts : Look → rows.Row → Bool
asserts look (rows.Look other next) = look_number look == look_number other
asserts look _ = false

abbrev pub has_look : List rows.Row → Look → Bool
has_look rs look = list_any (asserts look) rs

-- a set has the assertions that the rows have
abbrev pub HoldsLooks : ℕ → List rows.Row → Type 0
HoldsLooks set rs = (look : Look) → holds_look set look ≡ has_look rs look

-- whether some of the rows tells a byte and the next one apart
abbrev pub rows_part : ℕ → List rows.Row → ℕ → Bool
rows_part t rs b = list_any (row_parts t b (b + 1)) rs

-- A set has the bytes that are told apart from the next one. Whether it has the last byte means nothing.
abbrev pub EndsClasses : (set line_terminator : ℕ) → List rows.Row → Type 0
EndsClasses set t rs = (b : ℕ) → b < 255 → contains set b ≡ rows_part t rs b

-- Each Match row names one of so many patterns, and each of these has an id.
pub record NamesPatterns (count : ℕ) (rs : List rows.Row) : Type 0 where
  pub few : count ≤ id_count
  pub named : (q pattern : ℕ) → row_at rs q ≡ rows.Match pattern → pattern < count

-- There is one proof at most that no path which reads nothing goes round.
AllBehind-prop : (P : ℕ → Type 0) → ((q : ℕ) → IsProp (P q)) → (row : rows.Row) → IsProp (AllNext P row)
AllBehind-prop P one (rows.Bytes set next) = Unit-prop
AllBehind-prop P one (rows.Split first second) = ×_prop (one first) (one second)
AllBehind-prop P one (rows.Look look next) = one next
AllBehind-prop P one (rows.Match pattern) = Unit-prop
AllBehind-prop P one rows.Fail = Unit-prop

Short-prop : (rs : List rows.Row) (n q : ℕ) → IsProp (Short rs n q)
unfolding Short
Short-prop rs zero q = λ a b. absurd a
Short-prop rs (suc n) q = AllBehind-prop (λ p. Short rs n p) (λ p. Short-prop rs n p) (row_at rs q)

pub IsShallow-prop : (rs : List rows.Row) → IsProp (IsShallow rs)
IsShallow-prop rs =
    let each = λ (q : ℕ). Short-prop rs (length rs * length rs + 1) q in
    λ a b. ap (λ s. record { short = s }) (Π_prop each a.short b.short)
