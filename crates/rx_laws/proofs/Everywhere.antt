-- The table of four rows that matches everywhere gives the machine of the empty expression.
use Rattle.rx_spec.proofs.Prelude.{common_steps, ◌≡◌, ℕ, ◌<◌, ◌==◌, Bool, true, false, if◌then◌else◌, Some, List, []}
use Rattle.rx_spec.proofs.Prelude.{◌∷◌, ◌||◌, refl, sym, arith, Contains, contains, Expression, Anchored, Label, run}
use Rattle.rx_spec.proofs.Prelude.{State, dead_state, Build, Node, dead, next_node, node_label, is_match_label}
use Rattle.rx_laws.specs.Samples.{forward_build, state}
use Rattle.rx_laws.specs.TableExamples.{everywhere_label, EverywhereIsTable, EverywhereIsSound, EverywhereGives}
use Rattle.rx_laws.proofs.Computing.{computing}
use Rattle.rx_lemmas.proofs.ByteSets.{contains-empty}

abbrev empty : Build
empty = forward_build (Expression.Empty ∷ [])

abbrev next : ℕ → ℕ → ℕ
next row unit = if row == 2 then 3 else 0

-- by the test for quit, and for the match row
abbrev label_by : Bool → Bool → Label
label_by quit last = if quit then Label.Quits else (if last then Label.Matches (0 ∷ []) else Label.Plain)

universal_within : (row : ℕ) → Some 2 ≡ Some row → row < 4
universal_within row e = let same : 2 ≡ row = cc in omega arith

pub everywhere_is_table : EverywhereIsTable
everywhere_is_table = grind (arith, common_steps, universal_within)

abbrev Alike : ℕ → Node → Type 0
Alike row node = (word : List ℕ) → everywhere_label (run next row word) ≡ node_label (run (next_node empty) node word)

dead_alike : Alike 0 dead
unfolding run
dead_alike [] = refl
dead_alike (unit ∷ word) = dead_alike word

then_alike : (row : ℕ) (quit : Bool) (s : State) → quit ≡ false → Alike row (Node.Running s)
    → Alike row (if quit then Node.Quit else Node.Running s)
then_alike row true s e h = absurd (cc)
then_alike row false s e h = h

match_alike : Alike 3 (Node.Running (state [] (0 ∷ [])))
unfolding computing
match_alike [] = refl
match_alike (unit ∷ word) = then_alike 0 (contains 0 unit) dead_state (contains-empty unit) dead_alike word

-- what any unit leads to from a start
abbrev to_match : ℕ → Node
to_match unit = if contains 0 unit then Node.Quit else Node.Running (state [] (0 ∷ []))

start_alike : (s : State) → ((unit : ℕ) → next_node empty (Node.Running s) unit ≡ to_match unit)
    → node_label (Node.Running s) ≡ Label.Plain → Alike 2 (Node.Running s)
unfolding run
start_alike s step plain [] = sym plain
start_alike s step plain (unit ∷ word) = grind (arith, common_steps, then_alike, contains-empty, match_alike)

-- no pattern has starts of its own
pub no_pattern_starts : (k : ℕ) → Contains (Anchored.No ∷ Anchored.Yes ∷ []) (Anchored.Pattern k) → ⊥
no_pattern_starts k c = grind (arith, common_steps)

pub everywhere_gives : EverywhereGives
unfolding computing
everywhere_gives Anchored.No built start word fit = start_alike (state (0 ∷ 2 ∷ []) []) (λ unit. refl) refl word
everywhere_gives Anchored.Yes built start word fit = start_alike (state (0 ∷ []) []) (λ unit. refl) refl word
everywhere_gives (Anchored.Pattern k) built start word fit = absurd (no_pattern_starts k built)

-- ---- it is sound

abbrev next_by : Bool → ℕ
next_by b = if b then 3 else 0

leads_on : (b : Bool) → next_by b ≡ 1 → ⊥
leads_on true e = omega arith
leads_on false e = omega arith

told : (quit last : Bool) (ks : List ℕ) (k : ℕ) → label_by quit last ≡ Label.Matches ks → Contains ks k → k < 1
told true last ks k e c = absurd (cc)
told false true ks k e c = grind (arith, common_steps)
told false false ks k e c = absurd (cc)

-- the special rows are dead, quit, the match and the start
special : (dead quit last start : Bool) → (quit ≡ true → last ≡ false)
    → (dead || quit || last || start) ≡ (dead || quit || is_match_label (label_by quit last) || false || start)
special true quit last start apart = refl
special false true last start apart = refl
special false false true start apart = refl
special false false false start apart = refl

pub everywhere_is_sound : EverywhereIsSound
everywhere_is_sound = grind (arith, common_steps, everywhere_is_table, leads_on, told)
