-- What is found, in the words of the field.
use Rattle.std.specs.Prelude.{◌≡◌, ℕ, ◌<◌, ◌≤◌, ◌↔◌, ◌⊎◌, true, Some, None, List, length, slice_get, find, nat_le}
use Rattle.std.specs.Prelude.{Contains}
use Rattle.rx_spec.specs.Expressions.{Expression}
use Rattle.rx_spec.specs.Ends.{ends}
use Rattle.rx_spec.specs.Queries.{Anchored, Query, Match, reading}
use Rattle.rx_spec.specs.Found.{admitted, found}
use Rattle.rx_spec.specs.declared.Direction.{Direction}

-- where a mode lets a match of a pattern begin
abbrev pub Begins : Anchored → ℕ → ℕ → ℕ → Type 0
Begins Anchored.No start p k = Unit {0}
Begins Anchored.Yes start p k = p ≡ start
Begins (Anchored.Pattern pattern) start p k = (p ≡ start) × (k ≡ pattern)

-- a match of pattern k, of n, may begin at p: within the span, and where the mode lets it
abbrev pub IsAdmitted : Query → ℕ → ℕ → ℕ → Type 0
IsAdmitted q n p k = (q.start ≤ p) × (p ≤ q.end) × (k < n) × Begins q.mode q.start p k

abbrev pub AdmittedTests : Type 0
AdmittedTests = (q : Query) (n p k : ℕ) → admitted q n p k ≡ true ↔ IsAdmitted q n p k

-- a match of pattern k that begins at p, is admitted, and ends within the span
pub record IsCandidate (es : List Expression) (t : ℕ) (q : Query) (p k : ℕ) : Type 0 where
  pub admitted : IsAdmitted q (length es) p k
  pub expression : Expression
  pub numbered : slice_get es k ≡ Some expression
  pub end : ℕ
  pub ends_there : Contains (ends (reading Direction.Forward t q.haystack) expression p) end
  pub within : end ≤ q.end

-- What is found begins where a candidate does,
abbrev pub FoundIsCandidate : Type 0
FoundIsCandidate = (es : List Expression) (t : ℕ) (q : Query) (m : Match) → found es t q ≡ Some m
    → IsCandidate es t q m.start m.pattern

-- none begins before it, nor there with a lower pattern,
abbrev pub FoundIsLeftmost : Type 0
FoundIsLeftmost = (es : List Expression) (t : ℕ) (q : Query) (m : Match) → found es t q ≡ Some m
    → (p k : ℕ) → IsCandidate es t q p k → (m.start < p) ⊎ ((m.start ≡ p) × (m.pattern ≤ k))

-- and it ends at the first end, in the order of preference, that lies within the span.
abbrev pub FoundIsPreferred : Type 0
FoundIsPreferred = (es : List Expression) (t : ℕ) (q : Query) (m : Match) → found es t q ≡ Some m
    → (e : Expression) → slice_get es m.pattern ≡ Some e
    → find (λ j. nat_le j q.end) (ends (reading Direction.Forward t q.haystack) e m.start) ≡ Some m.end

-- Nothing is found exactly where there is no candidate.
abbrev pub FoundNothing : Type 0
FoundNothing = (es : List Expression) (t : ℕ) (q : Query)
    → found es t q ≡ None ↔ ((p k : ℕ) → IsCandidate es t q p k → ⊥)

-- a done query finds nothing
abbrev pub FoundWhenDone : Type 0
FoundWhenDone = (es : List Expression) (t : ℕ) (q : Query) → q.end < q.start → found es t q ≡ None
