-- NFAs: the rows of a list of expressions, and where searches start in them.
use Rattle.std.specs.Prelude.{ℕ, ◌+◌, ◌==◌, Bool, true, false, List, [], ◌∷◌, ◌++◌, length, map}
use Rattle.std.specs.List.{list_all, list_any}
use Rattle.rx_spec.specs.Bytes.{all_bytes}
use Rattle.rx_spec.specs.Expressions.{Expression, mirror, min_len}
use Rattle.rx_spec.specs.Rows.{Row, Part, compile}
use Rattle.rx_spec.specs.Edge.{begins_with_edge}
use Rattle.rx_spec.specs.declared.Direction.{Direction}

-- the entries of the patterns, and all their rows
pub record Patterns : Type 0 where
  pub entries : List ℕ
  pub rows : List Row

-- for each pattern in order its match row, and then its expression's rows before it
unfoldable pub patterns_from : ℕ → ℕ → List Expression → Patterns
patterns_from base k [] = record { entries = []; rows = [] }
patterns_from base k (e ∷ es) =
    let part = compile e (base + 1) base in
    let others = patterns_from (base + 1 + length part.rows) (k + 1) es in
    record { entries = part.entry ∷ others.entries; rows = (Row.Match k ∷ part.rows) ++ others.rows }

-- A start for all patterns: Splits, made from the last pair of entries to the first.
unfoldable pub start_of_all : ℕ → List ℕ → Part
start_of_all base [] = record { entry = base; rows = Row.Fail ∷ [] }
start_of_all base (entry ∷ []) = record { entry = entry; rows = [] }
start_of_all base (entry ∷ (next ∷ entries)) =
    let others = start_of_all base (next ∷ entries) in
    record { entry = base + length others.rows; rows = others.rows ++ (Row.Split entry others.entry ∷ []) }

-- an NFA, and the direction in which it reads
pub record Nfa : Type 0 where
  pub rows : List Row
  -- the start rows of an anchored and of an unanchored search, and of each pattern
  pub start_anchored : ℕ
  pub start_unanchored : ℕ
  pub start_patterns : List ℕ
  pub direction : Direction
  pub line_terminator : ℕ
  -- whether some pattern matches without a byte, and whether matches inside a character are passed over
  pub has_empty : Bool
  pub is_utf8 : Bool

-- whether every match begins at the text's edge: both starts are one row
abbrev pub is_always_start_anchored : Nfa → Bool
is_always_start_anchored nfa = nfa.start_anchored == nfa.start_unanchored

-- an expression in the order of reading: in reverse, concatenations are read from their second part
abbrev pub read_as : Direction → Expression → Expression
read_as Direction.Forward e = e
read_as Direction.Reverse e = mirror e

-- A Split of the anchored start and of a row that reads any byte and leads back to it. Where every
-- expression must begin with the edge, an unanchored search can begin nowhere else, and there is none.
abbrev pub lead_in : Bool → ℕ → ℕ → Part
lead_in true base anchored = record { entry = anchored; rows = [] }
lead_in false base anchored =
    record { entry = base; rows = Row.Split anchored (base + 1) ∷ Row.Bytes all_bytes base ∷ [] }

-- the NFA of a list of expressions
unfoldable pub nfa_of : Direction → ℕ → Bool → List Expression → Nfa
nfa_of direction line_terminator is_utf8 es =
    let read = map (read_as direction) es in
    let patterns = patterns_from 0 0 read in
    let anchored = start_of_all (length patterns.rows) patterns.entries in
    let base = length patterns.rows + length anchored.rows in
    let unanchored = lead_in (list_all (begins_with_edge direction) read) base anchored.entry in
    record {
      rows = patterns.rows ++ anchored.rows ++ unanchored.rows;
      start_anchored = anchored.entry;
      start_unanchored = unanchored.entry;
      start_patterns = patterns.entries;
      direction = direction;
      line_terminator = line_terminator;
      has_empty = list_any (λ e. min_len e == 0) es;
      is_utf8 = is_utf8;
    }

-- the NFA of one pattern that matches everywhere, and the one of no pattern
abbrev pub always_match : Nfa
always_match = record {
  rows = Row.Match 0 ∷ [];
  start_anchored = 0;
  start_unanchored = 0;
  start_patterns = 0 ∷ [];
  direction = Direction.Forward;
  line_terminator = 10;
  has_empty = true;
  is_utf8 = false;
}

abbrev pub never_match : Nfa
never_match = record {
  rows = Row.Fail ∷ [];
  start_anchored = 0;
  start_unanchored = 0;
  start_patterns = [];
  direction = Direction.Forward;
  line_terminator = 10;
  has_empty = false;
  is_utf8 = false;
}
