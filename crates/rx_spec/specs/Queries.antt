-- What is asked of a search, and what it answers. The names are those of regex-automata.
use Rattle.std.specs.Prelude.{ℕ, ◌+◌, ◌≤◌, Bool, true, false, nat_lt, Option, List, length, reverse}
use Rattle.rx_spec.specs.Looks.{Reading}
use Rattle.rx_spec.specs.declared.Direction.{Direction}

-- Where a match may begin, the mode of a search: anywhere, at the span's start, or there and of one
-- pattern alone.
pub data Anchored : Type 0 where
  No : Anchored
  Yes : Anchored
  Pattern : (pattern : ℕ) → Anchored

abbrev pub is_anchored : Anchored → Bool
is_anchored No = false
is_anchored Yes = true
is_anchored (Pattern k) = true

-- What is asked: a haystack, a span of it, a mode, and whether the first match met will do. The bytes
-- outside the span are seen by assertions.
pub record Query : Type 0 where
  pub haystack : List ℕ
  pub start : ℕ
  pub end : ℕ
  pub mode : Anchored
  pub earliest : Bool

-- the span lies in the haystack, or its start is one past its end
pub record IsFit (q : Query) : Type 0 where
  pub within : q.end ≤ length q.haystack
  pub ordered : q.start ≤ q.end + 1

-- a span whose start is past its end has nothing more to give
abbrev pub is_done : Query → Bool
is_done q = nat_lt q.end q.start

-- a match of a pattern, from start to end
pub record Match : Type 0 where
  pub pattern : ℕ
  pub start : ℕ
  pub end : ℕ

-- it lies in the span that was searched
pub record LiesIn (q : Query) (m : Match) : Type 0 where
  pub low : q.start ≤ m.start
  pub ordered : m.start ≤ m.end
  pub high : m.end ≤ q.end

-- one side of a match: its end forward, its start in reverse
pub record HalfMatch : Type 0 where
  pub pattern : ℕ
  pub offset : ℕ

-- Why a search has no answer: a quit byte at an offset; a mode without starts; or, where two half searches
-- are joined, an end for which the reverse search gave no start, or one of another pattern.
pub data MatchError : Type 0 where
  Quit : (byte : ℕ) → (offset : ℕ) → MatchError
  UnsupportedAnchored : (mode : Anchored) → MatchError
  PairMismatch : (forward : HalfMatch) → (reverse : Option HalfMatch) → MatchError

-- a haystack, read in either direction
abbrev pub in_order : Direction → List ℕ → List ℕ
in_order Direction.Forward haystack = haystack
in_order Direction.Reverse haystack = reverse haystack

abbrev pub reading : Direction → ℕ → List ℕ → Reading
reading direction t haystack =
    record { line_terminator = t; direction = direction; units = in_order direction haystack }
