-- Tests of each number below one.
use Rattle.std.specs.Prelude.{ℕ, zero, suc, ◌&&◌, Bool, true}

-- a test of each number below one
abbrev pub each_below : ℕ → (ℕ → Bool) → Bool
each_below zero p = true
each_below (suc n) p = each_below n p && p n
