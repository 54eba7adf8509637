-- A list of at most three bytes, as the three bytes that keep it.
use Rattle.std.specs.Prelude.{◌≡◌, ℕ, ◌≤◌, List, [], ◌∷◌, take}

-- the bytes of a list of at most three, and zeros after them
abbrev pub padded : List ℕ → List ℕ
padded [] = 0 ∷ 0 ∷ 0 ∷ []
padded (a ∷ []) = a ∷ 0 ∷ 0 ∷ []
padded (a ∷ (b ∷ [])) = a ∷ b ∷ 0 ∷ []
padded (a ∷ (b ∷ (c ∷ more))) = a ∷ b ∷ c ∷ []

-- so many bytes stand at the front of three, and zeros after them
pub record AreNeedles (len : ℕ) (bytes : List ℕ) : Type 0 where
  pub few : len ≤ 3
  pub kept : padded (take len bytes) ≡ bytes
