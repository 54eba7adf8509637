-- One step of a state, at a place of a reading: what the state gives there is what the next one gives one place
-- on, and what its label is worth here.
use Rattle.rx_spec.proofs.Prelude.{arith, ◌≡◌, ℕ, ◌+◌, Bool, true, false, Option, Some, None, List, [], ◌∷◌, ◌++◌, refl}
use Rattle.rx_spec.proofs.Prelude.{ap, sym, ◌∙◌, subst, common_steps, slice_get, option_or, flat_map, unit_of, after}
use Rattle.rx_spec.proofs.Prelude.{first_of, Row, Nfa, unit_facts, row_at, Passing, State, decided_rows, holds_before}
use Rattle.rx_spec.proofs.Prelude.{pattern_of, is_match_row, to_first_match, cut, target, step}
use Rattle.rx_spec.specs.declared.Look.{Look}
use Rattle.rx_spec.specs.declared.MatchKind.{MatchKind}
use Rattle.rx_lemmas.proofs.Firsts.{by_test}
use Rattle.rx_lemmas.proofs.ReadUnits.{unit_at}
use Rattle.rx_meaning.proofs.FirstSuccess.{first_of-nil, first_of-cons, first_of-single, first_of-append, first_of-none}
use Rattle.rx_meaning.proofs.Solution.{Valued, read_by, given, gives_at, given_solves}
use Rattle.rx_meaning.proofs.Closures.{IsReady, AllReady, closed_ready, first_given}
use Rattle.rx_meaning.proofs.Scan.{Scan, read_in, valued, StandsAt, step_at}
use Rattle.rx_meaning.proofs.StateAssertions.{state_gives, decided_gives}
use Rattle.rx_lemmas.proofs.FirstMatch.{first_here, first_later, pattern_of-none}
use Rattle.rx_lemmas.proofs.Ranges.{or_assoc, or_none}

-- what a label is worth at a place, by the first pattern that is worth something
abbrev pub label_worth : {V : Type 0} → (ℕ → ℕ → Option V) → ℕ → List ℕ → Option V
label_worth worth i ks = first_of (λ k. worth k i) ks

matched_row : (row : Row) → is_match_row row ≡ true → (k : ℕ) × (row ≡ Row.Match k)
matched_row (Row.Match k) e = (k, refl)
matched_row _ e = absurd (cc)

-- ---- what is cut off after a match

module _ (rows : List Row) where
  abbrev pub matched : List ℕ → List ℕ
  matched qs = flat_map (λ q. pattern_of (row_at rows q)) qs

  -- the first pattern stays
  head_cut : (qs : List ℕ) → slice_get (matched (to_first_match rows qs)) 0 ≡ slice_get (matched qs) 0
  unfolding to_first_match
  head_cut [] = refl
  head_cut (q ∷ qs) = grind (arith, common_steps, matched_row, first_here, pattern_of-none, first_later, head_cut qs)

  -- where nothing matches, nothing is cut
  uncut : (qs : List ℕ) → matched (to_first_match rows qs) ≡ [] → to_first_match rows qs ≡ qs
  unfolding to_first_match
  uncut [] h = refl
  uncut (q ∷ qs) h =
      by_test (is_match_row (row_at rows q))
      (λ e. let k = matched_row (row_at rows q) e in
      let here = ap (λ l. matched l) (first_here rows q qs e) ∙ ap (λ row. pattern_of row ++ []) k.1 in
      absurd (no_match k.0 (sym here ∙ h)))
      (λ e. let none = pattern_of-none (row_at rows q) e in
      let later = ap (λ l. matched l) (first_later rows q qs e)
      ∙ ap (λ ks. ks ++ matched (to_first_match rows qs)) none in
      first_later rows q qs e ∙ ap (λ (l : List ℕ). q ∷ l) (uncut qs (sym later ∙ h)))
    where
      no_match : (k : ℕ) → (k ∷ []) ++ [] ≡ [] → ⊥
      no_match k e = cc

-- a step's label, and its targets where its label is empty, are those of the rows that aren't cut
pub label_head : (nfa : Nfa) (kind : MatchKind) (s : State) (unit : ℕ)
    → slice_get (step nfa kind s unit).label 0 ≡ slice_get (matched nfa.rows (decided_rows nfa unit s)) 0
unfolding step
label_head nfa MatchKind.All s unit = refl
label_head nfa MatchKind.LeftmostFirst s unit = head_cut nfa.rows (decided_rows nfa unit s)

-- a step that cuts nothing
abbrev pub CutsNothing : Nfa → MatchKind → State → ℕ → Type 0
CutsNothing nfa kind s unit = cut kind nfa.rows (decided_rows nfa unit s) ≡ decided_rows nfa unit s

pub cuts_nothing : (nfa : Nfa) (kind : MatchKind) (s : State) (unit : ℕ) → (step nfa kind s unit).label ≡ []
    → CutsNothing nfa kind s unit
unfolding step
cuts_nothing nfa MatchKind.All s unit e = refl
cuts_nothing nfa MatchKind.LeftmostFirst s unit e = uncut nfa.rows (decided_rows nfa unit s) e

-- ---- what rows give once their assertions are decided

module _ {V : Type 0} (c : Scan) (worth : ℕ → ℕ → Option V) where
  abbrev nfa : Nfa
  nfa = c.build.nfa

  abbrev x : Valued V
  x = valued c worth

  abbrev targets : ℕ → List ℕ → List ℕ
  targets i qs = flat_map (λ q. target (unit_at (read_in c) i) (row_at nfa.rows q)) qs

  target_gives : (set next i : ℕ) (byte : Option ℕ)
      → read_by set byte (given x next (i + 1)) ≡ first_given x (i + 1) (target (unit_of byte) (Row.Bytes set next))
  target_gives set next i None = sym (first_of-nil (λ (q : ℕ). given x q (i + 1)))
  target_gives set next i (Some b) = grind (arith, common_steps, first_of-single, first_of-nil)

  -- a row gives what the row to which it leads gives one place on, or what its match is worth here
  row_reads : (holds : Look → Bool) (i : ℕ) (row : Row) → IsReady (Passing.Tested holds) row
      → gives_at x i row
      ≡ option_or (first_given x (i + 1) (target (unit_at (read_in c) i) row)) (label_worth worth i (pattern_of row))
  unfolding first_of
  row_reads holds i (Row.Bytes set next) ready =
      grind (arith, common_steps, target_gives, or_none, first_given, unit_at, read_in)
  row_reads holds i (Row.Match k) ready = sym (or_none (worth k i))
  row_reads holds i _ ready = absurd ready

  module _ (holds : Look → Bool) (i : ℕ) where
    abbrev Ready : List ℕ → Type 0
    Ready qs = AllReady nfa.rows (Passing.Tested holds) qs

    -- what the first of them gives, and then the others
    abbrev reads_first : Row → Option V → Option V
    reads_first row rest =
        option_or (option_or (first_given x (i + 1) (target (unit_at (read_in c) i) row))
        (label_worth worth i (pattern_of row))) rest

    first_reads : (q : ℕ) (qs : List ℕ) → Ready (q ∷ qs)
        → first_given x i (q ∷ qs) ≡ reads_first (row_at nfa.rows q) (first_given x i qs)
    first_reads q qs ready = grind (arith, common_steps, first_of-cons, given, first_given, given_solves, row_reads)

    -- where no match is worth anything here, they give what their targets give
    later_gives : ((k : ℕ) → worth k i ≡ None) → (qs : List ℕ) → Ready qs
        → first_given x i qs ≡ first_given x (i + 1) (targets i qs)
    later_gives none [] ready =
        first_of-nil (λ (q : ℕ). given x q i) ∙ sym (first_of-nil (λ (q : ℕ). given x q (i + 1)))
    later_gives none (q ∷ qs) ready =
        grind (
          arith,
          common_steps,
          unit_at,
          read_in,
          first_reads,
          first_given,
          first_of-none,
          or_none,
          first_of-append,
          given,
          later_gives none qs ready.1,
        )

    -- where nothing is given past this place, they give what their matches are worth
    here_gives : ((q : ℕ) → given x q (i + 1) ≡ None) → (qs : List ℕ) → Ready qs
        → first_given x i qs ≡ label_worth worth i (matched nfa.rows qs)
    here_gives none [] ready = first_of-nil (λ (q : ℕ). given x q i) ∙ sym (first_of-nil (λ (k : ℕ). worth k i))
    here_gives none (q ∷ qs) ready =
        grind (
          arith,
          common_steps,
          unit_at,
          read_in,
          first_reads,
          first_given,
          first_of-none,
          given,
          first_of-append,
          here_gives none qs ready.1,
        )

    -- where every match is worth something here, what comes after the first match doesn't matter
    abbrev Cut : List ℕ → List ℕ → Type 0
    Cut qs left =
        first_given x i qs
        ≡ option_or (first_given x (i + 1) (targets i left)) (label_worth worth i (matched nfa.rows left))

    cut_match : ((k : ℕ) → (v : V) × (worth k i ≡ Some v)) → (q : ℕ) (qs : List ℕ) → Ready (q ∷ qs)
        → is_match_row (row_at nfa.rows q) ≡ true → Cut (q ∷ qs) (q ∷ [])
    unfolding first_of
    cut_match all q qs ready e =
        let k = matched_row (row_at nfa.rows q) e in
        let some = all k.0 in
        first_reads q qs ready
        ∙ ap (λ row. reads_first row (first_given x i qs)) k.1
        ∙ ap (λ v. option_or (option_or v None) (first_given x i qs)) some.1
        ∙ sym (ap (λ row. option_or (first_given x (i + 1) (target (unit_at (read_in c) i) row ++ []))
        (label_worth worth i (pattern_of row ++ []))) k.1
        ∙ ap (λ v. option_or v None) some.1)

    cut_other : (q : ℕ) (qs left : List ℕ) → Ready (q ∷ qs) → is_match_row (row_at nfa.rows q) ≡ false
        → Cut qs left → Cut (q ∷ qs) (q ∷ left)
    cut_other q qs left ready e h =
        grind (
          arith,
          common_steps,
          unit_at,
          read_in,
          pattern_of-none,
          first_reads,
          first_given,
          first_of-nil,
          or_none,
          or_assoc,
          first_of-append,
        )

    cut_gives : ((k : ℕ) → (v : V) × (worth k i ≡ Some v)) → (qs : List ℕ) → Ready qs
        → Cut qs (to_first_match nfa.rows qs)
    unfolding to_first_match first_of
    cut_gives all [] ready = refl
    cut_gives all (q ∷ qs) ready =
        grind (arith, common_steps, first_here, cut_match, first_later, cut_other, cut_gives all qs ready.1)

  -- ---- the step

  -- Leftmost-first, where every match is worth something: what the state gives is what the next one gives one
  -- place on, or else what its label is worth here.
  pub step_gives : (i : ℕ) (s : State) → c.build.kind ≡ MatchKind.LeftmostFirst
      → ((k : ℕ) → (v : V) × (worth k i ≡ Some v)) → StandsAt c s i
      → first_given (valued c worth) i s.rows
      ≡ option_or (first_given (valued c worth) (i + 1) (step_at c s i).rows)
      (label_worth worth i (step_at c s i).label)
  unfolding step
  step_gives i s leftmost all at =
      let u = unit_at (read_in c) i in
      let holds = holds_before nfa u s in
      let qs = decided_rows nfa u s in
      let left : to_first_match nfa.rows qs ≡ cut c.build.kind nfa.rows qs
      = ap (λ kind. cut kind nfa.rows qs) (sym leftmost) in
      let rows = cut c.build.kind nfa.rows qs in
      sym (decided_gives c worth i s at)
      ∙ subst (Cut holds i qs) left (cut_gives holds i all qs (closed_ready nfa.rows (Passing.Tested holds) s.rows))
      ∙ ap (λ v. option_or v (label_worth worth i (matched nfa.rows rows)))
      (sym (state_gives c worth (targets i rows) (unit_facts nfa.line_terminator u) (matched nfa.rows rows) (i + 1)))

  -- Where no match is worth anything here and nothing is cut, it is what the next one gives.
  pub step_later : (i : ℕ) (s : State) → CutsNothing c.build.nfa c.build.kind s (unit_at (read_in c) i)
      → ((k : ℕ) → worth k i ≡ None) → StandsAt c s i
      → first_given (valued c worth) (i + 1) (step_at c s i).rows ≡ first_given (valued c worth) i s.rows
  unfolding step
  step_later i s whole none at =
      let u = unit_at (read_in c) i in
      let holds = holds_before nfa u s in
      let qs = decided_rows nfa u s in
      let rows = cut c.build.kind nfa.rows qs in
      state_gives c worth (targets i rows) (unit_facts nfa.line_terminator u) (matched nfa.rows rows) (i + 1)
      ∙ ap (λ l. first_given x (i + 1) (targets i l)) whole
      ∙ sym (later_gives holds i none qs (closed_ready nfa.rows (Passing.Tested holds) s.rows))
      ∙ decided_gives c worth i s at

  -- Where nothing is given past this place, it is what the rows match.
  pub step_here : (i : ℕ) (s : State) → ((q : ℕ) → given (valued c worth) q (i + 1) ≡ None) → StandsAt c s i
      → first_given (valued c worth) i s.rows
      ≡ label_worth worth i (matched c.build.nfa.rows (decided_rows c.build.nfa (unit_at (read_in c) i) s))
  step_here i s none at =
      let holds = holds_before nfa (unit_at (read_in c) i) s in
      let qs = decided_rows nfa (unit_at (read_in c) i) s in
      sym (decided_gives c worth i s at)
      ∙ here_gives holds i none qs (closed_ready nfa.rows (Passing.Tested holds) s.rows)
