-- The classes of all bytes, as a list of their numbers.
use Rattle.std.specs.Prelude.{◌≡◌, ℕ, ◌+◌, ◌-◌, ◌<◌, ◌≤◌, Bool, not, nat_le, ◌==◌, if◌then◌else◌, List, [], ◌∷◌, ◌++◌}
use Rattle.std.specs.Prelude.{length, slice_index, filter}
use Rattle.std.specs.List.{range_with_len}
use Rattle.rx_spec.specs.Bytes.{eoi}
use Rattle.rx_spec.specs.Classes.{begins_class}

-- They begin at 0 and rise by 0 or 1, so that each number up to the last is the class of some byte.
pub record AreClasses (classes : List ℕ) : Type 0 where
  pub count : length classes ≡ 256
  pub first : slice_index classes 0 ≡ 0
  pub rises : (b : ℕ) → b < 255 → slice_index classes b ≤ slice_index classes (b + 1)
  pub by_one : (b : ℕ) → b < 255 → slice_index classes (b + 1) ≤ slice_index classes b + 1

-- which bytes end a class
abbrev pub ends_of : List ℕ → ℕ → Bool
ends_of classes b = not (slice_index classes b == slice_index classes (b + 1))

-- the columns of a table: the classes and the end mark
abbrev pub alphabet_len : List ℕ → ℕ
alphabet_len classes = slice_index classes 255 + 2

-- the bytes from one on that pass a test
abbrev pub bytes_from : (ℕ → Bool) → ℕ → List ℕ
bytes_from test at = filter test (range_with_len at (256 - at))

-- the least bytes of classes from a byte on, and the end mark, at place 256
abbrev pub representatives_from : List ℕ → ℕ → List ℕ
representatives_from classes at =
    bytes_from (begins_class (ends_of classes)) at ++ (if nat_le at 256 then eoi ∷ [] else [])

-- the bytes of a class from a byte on
abbrev pub elements_from : List ℕ → ℕ → ℕ → List ℕ
elements_from classes class at = bytes_from (λ b. slice_index classes b == class) at
