-- A hash of a list of numbers. Only that it is a function of the list is ever used.
use Rattle.std.specs.Prelude.{ℕ, List, ◌+◌, ◌*◌, ◌%◌, ◌^◌, fold}
use Rattle.std.specs.Int.{w64, rotate_left}
use Rattle.rx_interner.specs.declared.hash.TheConstants.{SEED, FACTOR}

-- a number joined to the hash of those before it
abbrev pub mixed : ℕ → ℕ → ℕ
mixed hash number = (rotate_left w64 hash 29 + number * FACTOR % 2 ^ 64) % 2 ^ 64

unfoldable pub hash_of : List ℕ → ℕ
hash_of key = fold mixed SEED key
