use Rattle.rx_spec.proofs.Prelude.{common_steps, ℕ, ◌≡◌, Option, Some, None, List, refl, arith, Anchored, Table}
use Rattle.rx_equal.specs.Partings.{AreAlikeBy, IsParting, answer_at}
use Rattle.rx_equal.specs.Examples.{no_patterns}
use Rattle.rx_equal.proofs.PartingsLaws.{starts_of_no_pattern}
use Rattle.rx_equal.proofs.examples.tables_without_patterns.Goals as goal

abbrev t : Table
t = no_patterns (Some 0)

abbrev u : Table
u = no_patterns None

-- both begin in a mode of no pattern, or quit by one byte
abbrev AlikeIn : Anchored → Type 0
AlikeIn mode = (beside : Option ℕ) (word : List ℕ)
    → AreAlikeBy t u word (answer_at t (record { beside = beside; mode = mode }))
    (answer_at u (record { beside = beside; mode = mode }))

no_alike : AlikeIn Anchored.No
no_alike None word = refl
no_alike (Some byte) word = grind (arith, common_steps)

yes_alike : AlikeIn Anchored.Yes
yes_alike None word = refl
yes_alike (Some byte) word = grind (arith, common_steps)

alone : (beside : Option ℕ) (mode : Anchored) (word : List ℕ)
    → IsParting t u (record { beside = beside; mode = mode }) word → mode ≡ Anchored.Pattern 0
alone beside Anchored.No word parting = absurd (parting.1 (no_alike beside word))
alone beside Anchored.Yes word parting = absurd (parting.1 (yes_alike beside word))
alone beside (Anchored.Pattern k) word parting = grind (arith, common_steps)

pub returns : goal.returns
returns c = grind (arith, common_steps, starts_of_no_pattern, alone)
