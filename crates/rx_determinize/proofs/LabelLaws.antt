-- The labels of reached states name patterns of the NFA.
use Rattle.std.proofs.lemmas.Bool.{cases_Bool}
use Rattle.rx_spec.proofs.Prelude.{arith, ◌≡◌, ℕ, ◌<◌, Bool, Option, List, [], ◌∷◌, refl, subst, common_steps}
use Rattle.rx_spec.proofs.Prelude.{All-append, All-nil, All, if◌then◌else◌, flat_map, Build, Node, Quit, Running}
use Rattle.rx_spec.proofs.Prelude.{next_node, built_entry, IsReached, start_node, Anchored, Row, State, cut}
use Rattle.rx_spec.proofs.Prelude.{decided_rows, pattern_of, row_at, step}
use Rattle.rx_determinize.proofs.Prelude.{MatchKind, NamesPatterns, run-within}
use Rattle.rx_spec.specs.declared.Start.{Start}

module _ (count : ℕ) where
  abbrev AreBelow : List ℕ → Type 0
  AreBelow = All (λ k. k < count)

  pattern_named : (rows : List Row) (q : ℕ) (row : Row) → NamesPatterns count rows → row_at rows q ≡ row
      → AreBelow (pattern_of row)
  pattern_named rows q row names e = grind (arith, common_steps, All-nil)

  rows_named : (rows : List Row) (qs : List ℕ) → NamesPatterns count rows
      → AreBelow (flat_map (λ q. pattern_of (row_at rows q)) qs)
  rows_named rows [] names = All-nil (λ k. k < count)
  rows_named rows (q ∷ qs) names =
      All-append (λ k. k < count) (pattern_of (row_at rows q)) (flat_map (λ q. pattern_of (row_at rows q)) qs)
      (pattern_named rows q (row_at rows q) names refl) (rows_named rows qs names)

  module _ (b : Build) (named : NamesPatterns count b.nfa.rows) where
    -- what a node tells
    abbrev IsNamed : Node → Type 0
    IsNamed Quit = Unit {0}
    IsNamed (Running s) = AreBelow s.label

    step_named : (kind : MatchKind) (s : State) (unit : ℕ) → AreBelow (step b.nfa kind s unit).label
    unfolding step
    step_named kind s unit = rows_named b.nfa.rows (cut kind b.nfa.rows (decided_rows b.nfa unit s)) named

    chosen_named : (c : Bool) (x y : Node) → IsNamed x → IsNamed y → IsNamed (if c then x else y)
    chosen_named c x y f g = grind (arith, common_steps, cases_Bool)

    next_named : (node : Node) (unit : ℕ) → IsNamed (next_node b node unit)
    next_named node unit = grind (arith, common_steps, All-nil, step_named)

    start_named : (row : Option ℕ) (start : Start) → IsNamed (start_node b.nfa row start)
    start_named row start = grind (arith, common_steps, All-nil)

    entry_named : (mode : Anchored) (start : Start) → IsNamed (built_entry b mode start)
    entry_named mode start = grind (arith, common_steps)

    pub reached_named : (s : State) → IsReached b s → AreBelow s.label
    reached_named s r =
        subst IsNamed r.leads
        (run-within (next_node b) IsNamed (λ node unit was is_unit. next_named node unit)
        (built_entry b r.mode r.start) r.word (entry_named r.mode r.start) r.units)
