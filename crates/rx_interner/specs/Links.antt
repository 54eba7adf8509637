-- Lists of numbers, each linked to an older one.
use Rattle.std.specs.Prelude.{ℕ, List, map}

-- a list of numbers, and the number of an older link
pub record Link : Type 0 where
  pub key : List ℕ
  pub older : ℕ

-- the lists, in the order of their numbers
abbrev pub keys_of : List Link → List (List ℕ)
keys_of links = map (λ link. link.key) links
