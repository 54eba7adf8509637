-- What a run has read and written.
use Rattle.std.specs.Prelude.{ℕ, ◌<◌, Option, List, length, take}
use Rattle.std.specs.Io.KnownBytes.{Appends}

-- what is left in a source and what was written to a sink, before a run and after it
pub record Ends : Type 0 where
  pub left_before : Option (List ℕ)
  pub left_after : Option (List ℕ)
  pub written_before : Option (List ℕ)
  pub written_after : Option (List ℕ)

-- A front of a text was added, and not all of it.
pub record AppendsFront (before after : Option (List ℕ)) (text : List ℕ) : Type 0 where
  pub count : ℕ
  pub part : count < length text
  pub written : Appends before after (take count text)
