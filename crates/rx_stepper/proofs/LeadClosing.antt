-- Closures that are written behind the lead-in, or without it.
use Rattle.rx_spec.proofs.Prelude.{common_steps, ◌≡◌, ℕ, ◌<◌, Bool, true, false, if◌then◌else◌, List, [], ◌∷◌, ◌++◌}
use Rattle.rx_spec.proofs.Prelude.{length, subst, arith, slice_get_past, recursion_from_All, All, id_count, Nfa}
use Rattle.rx_spec.proofs.Prelude.{is_always_start_anchored, Row, IsShallow, Standing, row_at, closure, firsts}
use Rattle.rx_stepper.proofs.Prelude.{Apart, AreMetTo, IsLeast, NFA, are_closed, closed_rows, closure_unfolds}
use Rattle.rx_stepper.proofs.Prelude.{every-weaker, lead_of, led, meaning, stands, written, written_as}
use Rattle.std.specs.List.{AllByRecursion as Every}
use Rattle.rx_stepper.proofs.Decisions.{closed_stands, firsts_twice}
use Rattle.rx_stepper.proofs.KeyLaws.{apart_once, rows_closed}
use Rattle.rx_stepper.proofs.LeadPlaces.{at_in}
use Rattle.rx_stepper.proofs.LeadSplits.{every_in}
use Rattle.rx_stepper.proofs.LedSteps.{closed_joined}
use Rattle.rx_stepper.proofs.Members.{In, in_here, in_there}
use Rattle.rx_stepper.proofs.WrittenRows.{written_least}

-- ---- rows that stand are reached from themselves alone

stand_alone : (rows : List Row) → IsShallow rows → (q : ℕ) → stands (row_at rows q) ≡ true
    → closure rows Standing q ≡ q ∷ []
stand_alone rows shallow q s = grind (arith, common_steps, closure_unfolds)

lead_stands : (nfa : Nfa) → Every (λ q. stands (row_at nfa.rows q) ≡ true) (lead_of nfa)
lead_stands nfa = go (is_always_start_anchored nfa)
  where
    go : (b : Bool) → Every (λ q. stands (row_at nfa.rows q) ≡ true)
        (if b then [] else closed_rows nfa.rows Standing (nfa.start_unanchored ∷ []))
    go true = tt
    go false = closed_stands nfa.rows (nfa.start_unanchored ∷ [])

stand_within : (rows : List Row) (q : ℕ) → stands (row_at rows q) ≡ true → q < length rows
stand_within rows q s = grind (arith, common_steps, slice_get_past)

pub lead_within : (nfa : Nfa) → Every (λ q. q < length nfa.rows) (lead_of nfa)
lead_within nfa = grind (arith, common_steps, every-weaker, stand_within, lead_stands)

pub lead_once : (nfa : Nfa) → firsts (lead_of nfa) ≡ lead_of nfa
lead_once nfa = grind (arith, common_steps, apart_once, firsts_twice)

pub lead_closed : (nfa : Nfa) {lead : List ℕ} → lead ≡ lead_of nfa → All (λ q. q < id_count) lead
    → are_closed nfa.rows lead ≡ true
lead_closed nfa {lead} e ids = grind (arith, common_steps, rows_closed, lead_stands, recursion_from_All, lead_once)

pub lead_alone : (nfa : NFA) {lead : List ℕ} → lead ≡ lead_of (meaning nfa) → (q : ℕ) → In lead q
    → closure (meaning nfa).rows Standing q ≡ q ∷ []
lead_alone nfa {lead} e q i =
    stand_alone (meaning nfa).rows nfa.shallow q
    (every_in (λ x. stands (row_at (meaning nfa).rows x) ≡ true) (lead_of (meaning nfa)) (lead_stands (meaning nfa))
    (subst (λ l. In l q) e i))

-- ---- tests that agree on the lead-in's rows

pub met_alike : {met listed : ℕ → Bool} {rows : List ℕ} {len : ℕ} → ((q : ℕ) → In rows q → met q ≡ listed q)
    → AreMetTo met rows len → AreMetTo listed rows len
met_alike {rows = rows} {len} same m = grind (arith, common_steps, at_in)

pub every_all : (P : ℕ → Type 0) (xs : List ℕ) → ((q : ℕ) → In xs q → P q) → Every P xs
every_all P [] h = tt
every_all P (x ∷ xs) h = (h x (in_here x xs), every_all P xs (λ q i. h q (in_there x q xs i)))

-- ---- behind the lead-in

-- a row is the unanchored start, and there is a lead-in
pub record Starts (lead : List ℕ) (row start : ℕ) : Type 0 where
  pub same : row ≡ start
  pub some : 0 < length lead

pub written_led : (nfa : Nfa) (front : List ℕ) {lead from own listed : List ℕ} {row : ℕ} → lead ≡ lead_of nfa
    → Starts lead row nfa.start_unanchored → from ≡ front ++ row ∷ [] → listed ≡ closed_rows nfa.rows Standing front
    → Apart own → led own lead ≡ led listed lead → IsLeast lead own
    → written (lead_of nfa) (closed_rows nfa.rows Standing from) ≡ written_as true own
written_led nfa front {lead} {from} {own} {listed} {row} e s split l apart same least =
    grind (arith, common_steps, closed_joined, written_least)
