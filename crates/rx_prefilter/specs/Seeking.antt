-- Literals that are looked for in a text of which only the last bytes are kept.
use Rattle.std.specs.Prelude.{ℕ, ◌≡◌, ◌+◌, ◌-◌, ◌<◌, ◌≤◌, min, List, length, slice_index, Option}
use Rattle.memchr.specs.Find.{IsFirst, OccursAt}
use Rattle.rx_spec.specs.Bytes.{AreBytes}
use Rattle.rx_prefilter.specs.OnlyLiterals.{IsFirstPlace}

-- A literal was looked for in a text of `len` bytes, in as much as there is of the span from `start` to `end`.
pub record IsSought (text literal : List ℕ) (start end len : ℕ) (place : Option ℕ) : Type 0 where
  pub count : length text ≡ len
  pub bytes : AreBytes text
  pub first : IsFirstPlace text literal start (min end len) place

-- ---- on the way

-- The last `kept` bytes of a text are the first ones of a buffer. These are all of them, or one fewer than the literal
-- has.
pub record AreKept (text literal buffer : List ℕ) (kept : ℕ) : Type 0 where
  pub enough : min (length text) (length literal - 1) ≤ kept
  pub few : kept ≤ length literal - 1
  pub within : kept ≤ length text
  pub last : (i : ℕ) → i < kept → slice_index buffer i ≡ slice_index text (length text - kept + i)

-- the first offset of a span at which a literal lies in a window that stands at the offset `base`
abbrev pub IsFirstShown : (window literal : List ℕ) → (base start end : ℕ) → Option ℕ → Type 0
IsFirstShown window literal base start end place =
    IsFirst (λ at. (base ≤ at) × OccursAt window literal (at - base)) start
    (min end (base + length window) + 1 - length literal) place
