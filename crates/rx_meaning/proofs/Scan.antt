-- A build that reads bytes, and what is asked of a plan's builds.
use Rattle.rx_spec.proofs.Prelude.{common_steps, ◌≡◌, ℕ, ◌+◌, ◌<◌, ◌≤◌, false, Option, List, length, refl, arith, All}
use Rattle.rx_spec.proofs.Prelude.{slice_get, flat_map, AreBytes, unit_of, Reading, before, after, Expression}
use Rattle.rx_spec.proofs.Prelude.{IsLoopSafe, Query, in_order, facts_of, unit_facts, IsShallow, row_at, State}
use Rattle.rx_spec.proofs.Prelude.{state_at, decided_rows, cut, target, pattern_of, step, Build}
use Rattle.rx_plan.specs.Plans.{Plan, plan_build}
use Rattle.rx_spec.specs.declared.Direction.{Direction}
use Rattle.rx_lemmas.proofs.Facts.{unit_knows}
use Rattle.rx_lemmas.proofs.ReadUnits.{unit_at, All-got, bytes_in_order}
use Rattle.rx_lemmas.proofs.Shallows.{nfa_shallow}
use Rattle.rx_meaning.proofs.Solution.{Valued}

-- a build whose paths that read nothing are short, and the bytes that it reads, in the order of reading
pub record Scan : Type 0 where
  pub build : Build
  pub shallow : IsShallow build.nfa.rows
  pub units : List ℕ
  pub bytes : AreBytes units

abbrev pub read_in : Scan → Reading
read_in c =
    record { line_terminator = c.build.nfa.line_terminator; direction = c.build.nfa.direction; units = c.units }

abbrev pub valued : {V : Type 0} → Scan → (ℕ → ℕ → Option V) → Valued V
valued c worth = record { rows = c.build.nfa.rows; shallow = c.shallow; reading = read_in c; worth = worth }

-- A state that stands at a place: its rows are reached from some rows, and its context is of the unit
-- read last.
pub record StandsAt (c : Scan) (s : State) (i : ℕ) : Type 0 where
  pub roots : List ℕ
  pub is : s ≡ state_at c.build.nfa roots (facts_of c.build.nfa.line_terminator (before c.units i)) s.label

-- a unit tells as much as the byte, or its absence
pub unit_facts_of : (t : ℕ) (units : List ℕ) (i : ℕ) → AreBytes units
    → unit_facts t (unit_of (after units i)) ≡ facts_of t (after units i)
unit_facts_of t units i bytes = of_byte (slice_get units i) refl
  where
    of_byte : (byte : Option ℕ) → slice_get units i ≡ byte → unit_facts t (unit_of byte) ≡ facts_of t byte
    of_byte Option.None e = refl
    of_byte (Option.Some b) e = unit_knows t b (All-got (λ b. b < 256) units i b bytes e)

-- the step by the unit at a place stands one place on
abbrev pub step_at : Scan → State → ℕ → State
step_at c s i = step c.build.nfa c.build.kind s (unit_at (read_in c) i)

pub step_stands : (c : Scan) (s : State) (i : ℕ) → StandsAt c (step_at c s i) (i + 1)
unfolding step
step_stands c s i =
    let nfa = c.build.nfa in
    let u = unit_at (read_in c) i in
    let rows = cut c.build.kind nfa.rows (decided_rows nfa u s) in
    let roots = flat_map (λ q. target u (row_at nfa.rows q)) rows in
    let label = flat_map (λ q. pattern_of (row_at nfa.rows q)) rows in
    let place : ℕ.suc i ≡ i + 1 = omega arith in
    grind (arith, common_steps, unit_facts_of)

-- Expressions that are safe to repeat, built by a plan, and a query of bytes.
pub record PlanQuery : Type 0 where
  pub plan : Plan
  pub expressions : List Expression
  pub safe : All IsLoopSafe expressions
  pub query : Query
  pub bytes : AreBytes query.haystack
  pub inside : query.end ≤ length query.haystack

abbrev pub plan_query : (p : Plan) (es : List Expression) (q : Query) → All IsLoopSafe es → AreBytes q.haystack
    → q.end ≤ length q.haystack → PlanQuery
plan_query p es q safe bytes inside =
    record { plan = p; expressions = es; safe = safe; query = q; bytes = bytes; inside = inside }

-- the build of one direction reads the haystack
abbrev pub scan_of : PlanQuery → Direction → Scan
scan_of a direction = record {
  build = plan_build a.plan direction a.expressions;
  shallow = nfa_shallow direction a.plan.line_terminator false a.expressions a.safe;
  units = in_order direction a.query.haystack;
  bytes = bytes_in_order direction a.query.haystack a.bytes;
}
