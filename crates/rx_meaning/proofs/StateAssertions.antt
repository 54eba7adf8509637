-- Deciding a state's assertions by the next unit keeps what the state gives.
use Rattle.rx_spec.proofs.Prelude.{rules, ◌≡◌, ℕ, Bool, true, false, if◌then◌else◌, Option, List, [], ◌∷◌, ap, ◌∙◌}
use Rattle.rx_spec.proofs.Prelude.{arith, common_steps, or_parts, slice_get_past, Contains, flat_map, list_any, Reading}
use Rattle.rx_spec.proofs.Prelude.{before, after, holds_at, Row, Nfa, Facts, no_facts, facts_of, unit_facts, both}
use Rattle.rx_spec.proofs.Prelude.{holds_read, facts_kept, row_at, Passing, reach, closure, firsts, State, is_look_row}
use Rattle.rx_spec.proofs.Prelude.{state_at, decided_rows, holds_before}
use Rattle.std.proofs.lemmas.Option.{unwrap_or-slice_get}
use Rattle.std.specs.List.{AllByRecursion as Every}
use Rattle.rx_spec.specs.declared.Look.{Look}
use Rattle.rx_lemmas.proofs.Facts.{facts_decide, kept_last, kept_cover}
use Rattle.rx_lemmas.proofs.ReadUnits.{unit_at}
use Rattle.rx_meaning.proofs.FirstSuccess.{first_of-single, first_of-flat_map, first_of-same}
use Rattle.rx_meaning.proofs.FirstOccurrences.{firsts_keep}
use Rattle.rx_meaning.proofs.Solution.{Valued, given}
use Rattle.rx_meaning.proofs.Closures.{IsReady, AllReady, closed_ready, DecidesRows, first_given, closed_gives}
use Rattle.rx_meaning.proofs.Scan.{Scan, read_in, valued, StandsAt, unit_facts_of}

-- an assertion's row is one of the rows
look_there : (rows : List Row) (q : ℕ) (look : Look) (next : ℕ) → row_at rows q ≡ Row.Look look next
    → Contains rows (Row.Look look next)
look_there rows q look next e = search (rules, unwrap_or-slice_get, slice_get_past)

-- the facts of the bytes beside a place decide it, in the order of reading
read_decides : (r : Reading) (look : Look) (i : ℕ)
    → holds_read r.direction look (facts_of r.line_terminator (before r.units i))
    (facts_of r.line_terminator (after r.units i)) ≡ holds_at r look i
read_decides r look i = grind (arith, common_steps, facts_decide)

closure_stays : (rows : List Row) (pass : Passing) (q : ℕ) → IsReady Passing.Standing (row_at rows q)
    → is_look_row (row_at rows q) ≡ false → closure rows pass q ≡ q ∷ []
unfolding reach
closure_stays rows pass q h e = grind (arith, common_steps)

module _ {V : Type 0} (c : Scan) (worth : ℕ → ℕ → Option V) where
  abbrev nfa : Nfa
  nfa = c.build.nfa

  abbrev x : Valued V
  x = valued c worth

  -- A state's rows give what their roots give.
  pub state_gives : (roots : List ℕ) (facts : Facts) (label : List ℕ) (i : ℕ)
      → first_given (valued c worth) i (state_at c.build.nfa roots facts label).rows
      ≡ first_given (valued c worth) i roots
  state_gives roots facts label i = closed_gives x Passing.Standing i (λ q look next e. tt) roots

  -- the facts of the unit read last, as many as are kept, decide its assertions
  kept_decides : (i : ℕ) (context : Facts)
      → context ≡ both (facts_kept nfa.rows) (facts_of nfa.line_terminator (before c.units i))
      → let unit = unit_facts nfa.line_terminator (unit_at (read_in c) i) in
      DecidesRows nfa.rows (read_in c) i (Passing.Tested (λ look. holds_read nfa.direction look context unit))
  kept_decides i context is q look next e =
      let t = nfa.line_terminator in
      let last = facts_of t (before c.units i) in
      let unit = unit_facts t (unit_at (read_in c) i) in
      ap (λ f. holds_read nfa.direction look f unit) is
      ∙ kept_last nfa.direction look (facts_kept nfa.rows) last unit
      (kept_cover nfa.rows look next (look_there nfa.rows q look next e))
      ∙ ap (holds_read nfa.direction look last) (unit_facts_of t c.units i c.bytes)
      ∙ read_decides (read_in c) look i

  both_each : (P : ℕ → Type 0) (test : ℕ → Bool) (xs : List ℕ) → Every P xs → list_any test xs ≡ false
      → Every (λ q. P q × (test q ≡ false)) xs
  both_each P test [] h e = tt
  both_each P test (q ∷ qs) h e = grind (arith, common_steps, or_parts, both_each P test qs h.1)

  -- where none of them is an assertion, any test leaves them as they are
  undecided : (pass : Passing) (i : ℕ) (qs : List ℕ) → AllReady nfa.rows Passing.Standing qs
      → list_any (λ q. is_look_row (row_at nfa.rows q)) qs ≡ false
      → first_given x i (firsts (flat_map (λ q. closure nfa.rows pass q) qs)) ≡ first_given x i qs
  undecided pass i qs ready none =
      let stands = λ (q : ℕ). IsReady Passing.Standing (row_at nfa.rows q) in
      let looks = λ (q : ℕ). is_look_row (row_at nfa.rows q) in
      firsts_keep (λ p. given x p i) (flat_map (λ q. closure nfa.rows pass q) qs)
      ∙ first_of-flat_map (λ p. given x p i) (λ q. closure nfa.rows pass q) qs
      ∙ first_of-same (λ q. stands q × (looks q ≡ false)) (λ q. first_given x i (closure nfa.rows pass q))
      (λ q. given x q i) qs
      (λ q h. ap (first_given x i) (closure_stays nfa.rows pass q h.0 h.1) ∙ first_of-single (λ p. given x p i) q)
      (both_each stands looks qs ready none)

  -- Deciding its assertions by the next unit keeps what a state gives.
  decided_from : (i : ℕ) (roots label : List ℕ) (any : Bool)
      → let closed = firsts (flat_map (λ q. closure nfa.rows Passing.Standing q) roots) in
      list_any (λ q. is_look_row (row_at nfa.rows q)) closed ≡ any
      → let s = state_at nfa roots (facts_of nfa.line_terminator (before c.units i)) label in
      first_given x i (decided_rows nfa (unit_at (read_in c) i) s) ≡ first_given x i s.rows
  decided_from i roots label true e =
      let s = state_at nfa roots (facts_of nfa.line_terminator (before c.units i)) label in
      let known = both (facts_kept nfa.rows) (facts_of nfa.line_terminator (before c.units i)) in
      let context : s.context ≡ known = ap (λ v. if v then known else no_facts) e in
      let test = Passing.Tested (holds_before nfa (unit_at (read_in c) i) s) in
      closed_gives x test i (kept_decides i s.context context) s.rows
  decided_from i roots label false e = search (rules, undecided, closed_ready)

  pub decided_gives : (i : ℕ) (s : State) → StandsAt c s i
      → first_given (valued c worth) i (decided_rows c.build.nfa (unit_at (read_in c) i) s)
      ≡ first_given (valued c worth) i s.rows
  decided_gives i s at = grind (arith, common_steps, decided_from)
