-- What a token is of expressions: the longest match, of the lowest pattern with a match of that length.
use Rattle.std.specs.Prelude.{ℕ, ◌<◌, ◌≤◌, List}
use Rattle.rx_spec.specs.Expressions.{Expression}
use Rattle.rx_spec.specs.Queries.{HalfMatch}
use Rattle.rx_meaning.specs.AllMatches.{MatchesTo}

-- the longest match that begins at p and isn't empty, and of those that are as long the one of the lowest pattern
pub record IsLongestMatch (es : List Expression) (t : ℕ) (text : List ℕ) (p : ℕ) (m : HalfMatch) : Type 0 where
  pub above : p < m.offset
  pub matches : MatchesTo es t text p m.pattern m.offset
  pub longest : (k q : ℕ) → MatchesTo es t text p k q → q ≤ m.offset
  pub lowest : (k : ℕ) → MatchesTo es t text p k m.offset → m.pattern ≤ k
