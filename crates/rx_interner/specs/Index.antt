-- How a key is found: from the newest key of its hash to older ones.
use Rattle.std.specs.Prelude.{ℕ, suc, ◌≡◌, ◌≢◌, ◌==◌, Option, None, Some, List, [], ◌∷◌, if◌then◌else◌, slice_get, take}
use Rattle.std.specs.Prelude.{unwrap_or, AllPairs}
use Rattle.std.specs.Option.{option_map, option_or}
use Rattle.rx_interner.specs.Hash.{hash_of}
use Rattle.rx_interner.specs.Links.{Link, keys_of}

-- the number of the newest key that has a hash
unfoldable pub newest_of : ℕ → List (List ℕ) → Option ℕ
newest_of hash [] = None
newest_of hash (key ∷ newer) =
    option_or (option_map suc (newest_of hash newer)) (if hash_of key == hash then Some 0 else None)

-- Each link leads to the newest key of its hash among those before it. A link that has none there leads to itself.
abbrev pub AreChained : List Link → Type 0
AreChained links = (id : ℕ) (link : Link) → slice_get links id ≡ Some link
    → link.older ≡ unwrap_or (newest_of (hash_of link.key) (take id (keys_of links))) id

-- Keys that differ, each of which is reached from the newest one of its hash.
pub record IsIndex (links : List Link) (newest : ℕ → Option ℕ) : Type 0 where
  pub newest_is : (hash : ℕ) → newest hash ≡ newest_of hash (keys_of links)
  pub chained : AreChained links
  pub distinct : AllPairs (λ key other. key ≢ other) (keys_of links)
