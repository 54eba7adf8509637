-- The table of two rows gives the machine of the class of no byte, and no table has fewer rows.
use Rattle.rx_spec.proofs.Prelude.{common_steps, ◌≡◌, ℕ, Bool, true, false, if◌then◌else◌, List, [], ◌∷◌, ◌++◌, refl}
use Rattle.rx_spec.proofs.Prelude.{sym, ◌∙◌, arith, contains, all_bytes, Anchored, Facts, unit_facts, Label, run}
use Rattle.rx_spec.proofs.Prelude.{state_at, Node, dead, next_node, node_label}
use Rattle.rx_laws.specs.Samples.{state}
use Rattle.rx_laws.specs.TableExamples.{nowhere, no_byte, NowhereIsTable, NowhereGives, NowhereIsLeast}
use Rattle.rx_laws.proofs.Computing.{computing}
use Rattle.rx_laws.proofs.Everywhere.{no_pattern_starts}
use Rattle.rx_lemmas.proofs.ByteSets.{contains-empty}

pub nowhere_is_table : NowhereIsTable
nowhere_is_table = grind (arith, common_steps)

-- a node from which every word leads to nothing
abbrev Silent : Node → Type 0
Silent node = (word : List ℕ) → node_label (run (next_node no_byte) node word) ≡ Label.Plain

dead_silent : Silent dead
unfolding run
dead_silent [] = refl
dead_silent (unit ∷ word) = dead_silent word

-- the row of the table is dead, whatever is read
stays_dead : (word : List ℕ) → nowhere.machine.label (run nowhere.machine.next 0 word) ≡ Label.Plain
unfolding run
stays_dead [] = refl
stays_dead (unit ∷ word) = stays_dead word

-- what a unit leads to: the class has none, the lead-in of an unanchored search has each byte
abbrev leads_to : Bool → Bool → Facts → Node
leads_to none any facts =
    if none
    then Node.Quit
    else Node.Running (state_at no_byte.nfa
    ((if none then 0 ∷ [] else []) ++ ((if any then 2 ∷ [] else []) ++ [])) facts [])

anchored_silent : Silent (Node.Running (state (1 ∷ []) []))
unfolding computing
anchored_silent [] = refl
anchored_silent (unit ∷ word) = grind (arith, common_steps, contains-empty, dead_silent)

unanchored_silent : Silent (Node.Running (state (1 ∷ 3 ∷ []) []))
unfolding computing
unanchored_silent [] = refl
unanchored_silent (unit ∷ word) =
    then_silent (contains 0 unit) (contains all_bytes unit) (unit_facts 10 unit) (contains-empty unit)
    (unanchored_silent word)
  where
    then_silent : (none any : Bool) (facts : Facts) → none ≡ false
        → node_label (run (next_node no_byte) (Node.Running (state (1 ∷ 3 ∷ []) [])) word) ≡ Label.Plain
        → node_label (run (next_node no_byte) (leads_to none any facts) word) ≡ Label.Plain
    then_silent true any facts e again = absurd (cc)
    then_silent false true facts e again = again
    then_silent false false facts e again = dead_silent word

pub nowhere_gives : NowhereGives
unfolding computing
nowhere_gives Anchored.No built start word fit = stays_dead word ∙ sym (unanchored_silent word)
nowhere_gives Anchored.Yes built start word fit = stays_dead word ∙ sym (anchored_silent word)
nowhere_gives (Anchored.Pattern k) built start word fit = absurd (no_pattern_starts k built)

-- every table has two rows
pub nowhere_is_least : NowhereIsLeast
nowhere_is_least = grind (arith, common_steps, nowhere_is_table, nowhere_gives)
