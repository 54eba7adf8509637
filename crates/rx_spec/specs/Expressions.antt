-- Expressions: the regular expressions of Kleene, with assertions, counted repetitions, and the order of
-- preference that Perl and RE2 give to alternatives and rounds.
use Rattle.std.specs.Prelude.{ℕ, ◌+◌, ◌*◌, ◌<◌, ◌≤◌, min, max, Bool, Option, Some, None}
use Rattle.rx_spec.specs.declared.Look.{Look as Assertion}

-- A pattern, made of six forms.
pub data Expression : Type 0 where
  -- matches where it stands
  Empty : Expression
  -- one byte of a set
  Class : (set : ℕ) → Expression
  Look : (look : Assertion) → Expression
  Concat : (first : Expression) → (second : Expression) → Expression
  -- the first is preferred
  Alternate : (first : Expression) → (second : Expression) → Expression
  -- from least to most rounds, or without end; a greedy one prefers a further round
  Repeat : (least : ℕ) → (most : Option ℕ) → (greedy : Bool) → (body : Expression) → Expression

-- the least number of bytes that a match has
unfoldable pub min_len : Expression → ℕ
min_len Empty = 0
min_len (Class set) = 1
min_len (Look look) = 0
min_len (Concat a b) = min_len a + min_len b
min_len (Alternate a b) = min (min_len a) (min_len b)
min_len (Repeat least most greedy body) = least * min_len body

-- a leaf has depth 1
unfoldable pub depth : Expression → ℕ
depth Empty = 1
depth (Class set) = 1
depth (Look look) = 1
depth (Concat a b) = 1 + max (depth a) (depth b)
depth (Alternate a b) = 1 + max (depth a) (depth b)
depth (Repeat least most greedy body) = 1 + depth body

-- The parts of every concatenation swapped, and nothing else: the reversal of the language. What an
-- assertion tests stays in place, so it is the reading that turns round.
unfoldable pub mirror : Expression → Expression
mirror Empty = Empty
mirror (Class set) = Class set
mirror (Look look) = Look look
mirror (Concat a b) = Concat (mirror b) (mirror a)
mirror (Alternate a b) = Alternate (mirror a) (mirror b)
mirror (Repeat least most greedy body) = Repeat least most greedy (mirror body)

-- A repetition without end has a body that reads a byte in each round, and the bounds of one with an
-- end are in order.
abbrev pub IsBounded : ℕ → Option ℕ → Expression → Type 0
IsBounded least None body = 0 < min_len body
IsBounded least (Some most) body = least ≤ most

-- each repetition in it is bounded so
abbrev pub IsLoopSafe : Expression → Type 0
IsLoopSafe Empty = Unit {0}
IsLoopSafe (Class set) = Unit {0}
IsLoopSafe (Look look) = Unit {0}
IsLoopSafe (Concat a b) = IsLoopSafe a × IsLoopSafe b
IsLoopSafe (Alternate a b) = IsLoopSafe a × IsLoopSafe b
IsLoopSafe (Repeat least most greedy body) = IsBounded least most body × IsLoopSafe body
