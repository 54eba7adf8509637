-- What sources and sinks have in common: counts of faults, and which calls fail.
use Rattle.std.specs.Prelude.{ℕ, ◌+◌, ◌-◌, ◌^◌, ◌≤◌, ◌==◌, min, Bool, List}
use Rattle.std.specs.List.{list_any}

-- a count one higher, which stands still at the last number of 64 bits
abbrev pub one_more : ℕ → ℕ
one_more count = min (count + 1) (2 ^ 64 - 1)

-- A count of faults rose where it is higher than before, or stands at its last number. It never falls.
abbrev pub Rose : ℕ → ℕ → Type 0
Rose before now = (before ≤ now) × (one_more before ≤ now)

-- whether a call fails: those of these numbers do, the first being 1
abbrev pub fails_at : List ℕ → ℕ → Bool
fails_at fails call = list_any (λ number. number == call) fails
