-- A half search taken apart: it is done, its start is refused, or it is a walk.
use Rattle.rx_spec.proofs.Prelude.{arith, ◌≡◌, ℕ, ◌<◌, ◌≤◌, ◌⊎◌, true, false, Option, Some, None, Ok, Err, refl, ap, []}
use Rattle.rx_spec.proofs.Prelude.{◌∷◌, ◌++◌, sym, subst, common_steps, le-ltb, ltb-true, ltb-false, Contains, is_some}
use Rattle.rx_spec.proofs.Prelude.{if◌then◌else◌, contains, unit_of, Anchored, Query, is_done, HalfMatch, MatchError}
use Rattle.rx_spec.proofs.Prelude.{start_of, Machine, Settings, supports, StartError, mode_error, start_error}
use Rattle.rx_spec.proofs.Prelude.{start_row, has_anchored, has_unanchored, Build, built_modes, nfa_start, start_node}
use Rattle.rx_spec.proofs.Prelude.{power, build_settings, HalfAnswer, beside, match_error, whole_walk, half_search}
use Rattle.rx_spec.proofs.Prelude.{Contains-append_left, Contains-append_right}
use Rattle.rx_spec.specs.HalfSearches.{from_start}
use Rattle.rx_spec.specs.declared.Direction.{Direction}
use Rattle.rx_lemmas.proofs.Firsts.{by_test, Contains-here}

-- ---- starts

-- a build with anchored starts has them for the mode Yes
pub has_yes : (b : Build) → has_anchored b.start_kind ≡ true → Contains (built_modes b) Anchored.Yes
has_yes b anchored =
    let front = if has_unanchored b.start_kind then Anchored.No ∷ [] else [] in
    let middle = if has_anchored b.start_kind then Anchored.Yes ∷ [] else [] in
    Contains-append_left (front ++ middle) _ Anchored.Yes
    (Contains-append_right front middle Anchored.Yes
    (subst (λ v. Contains (if v then Anchored.Yes ∷ [] else []) Anchored.Yes) (sym anchored)
    (Contains-here Anchored.Yes [])))

-- A start that isn't refused: the byte beside the span can be searched, and the mode has starts.
pub record IsStarted (s : Settings) (byte : Option ℕ) (mode : Anchored) : Type 0 where
  pub clean : contains s.quit (unit_of byte) ≡ false
  pub supported : supports s.start_kind (is_some s.pattern_starts) mode ≡ true

mode_supported : (s : Settings) (mode : Anchored) → mode_error s mode ≡ None
    → supports s.start_kind (is_some s.pattern_starts) mode ≡ true
mode_supported s mode e = grind (arith, common_steps)

pub started : (s : Settings) (byte : Option ℕ) (mode : Anchored) → start_error s byte mode ≡ None
    → IsStarted s byte mode
started s None mode e = record { clean = refl; supported = mode_supported s mode e }
started s (Some b) mode e = grind (arith, common_steps)

pub not_refused : (s : Settings) (byte : Option ℕ) (mode : Anchored) → IsStarted s byte mode
    → start_error s byte mode ≡ None
not_refused s None mode is = let t = is.supported in rw t refl
not_refused s (Some b) mode is = let f = is.clean in let t = is.supported in rw (f, t) refl

-- A search is done, refused, or begins.
pub data Begins (s : Settings) (direction : Direction) (q : Query) : Type 0 where
  Done : q.end < q.start → Begins s direction q
  Refused : q.start ≤ q.end → (error : StartError) → start_error s (beside direction q) q.mode ≡ Some error
      → Begins s direction q
  Started : q.start ≤ q.end → start_error s (beside direction q) q.mode ≡ None → Begins s direction q

pub begins : (s : Settings) (direction : Direction) (q : Query) → Begins s direction q
begins s direction q =
    by_test (is_done q) (λ d. Done (ltb-true q.end q.start d))
    (λ d. by_error (ltb-false q.end q.start d) (start_error s (beside direction q) q.mode) refl)
  where
    by_error : q.start ≤ q.end → (error : Option StartError) → start_error s (beside direction q) q.mode ≡ error
        → Begins s direction q
    by_error order None e = Started order e
    by_error order (Some error) e = Refused order error e

pub build_start : (b : Build) (byte : Option ℕ) (mode : Anchored) → IsStarted (build_settings b) byte mode
    → start_row (power b) (build_settings b) byte mode
    ≡ start_node b.nfa (nfa_start b.nfa mode) (start_of b.nfa.line_terminator byte)
build_start b byte mode is = grind (arith, common_steps)

-- ---- the search

pub going : (q : Query) → q.start ≤ q.end → is_done q ≡ false
going q order = le-ltb q.end q.start order

module _ {R : Type 0} (m : Machine R) (s : Settings) (direction : Direction) (q : Query) where
  abbrev walked : HalfAnswer
  walked = whole_walk m direction q (start_row m s (beside direction q) q.mode)

  pub half_done : is_done q ≡ true → half_search m s direction q ≡ Ok None
  half_done d = rw d refl

  pub half_refused : (error : StartError) → is_done q ≡ false → start_error s (beside direction q) q.mode ≡ Some error
      → half_search m s direction q ≡ Err (match_error direction q error)
  half_refused error d e = rw d (ap (λ o. from_start direction q o walked) e)

  pub half_walks : is_done q ≡ false → start_error s (beside direction q) q.mode ≡ None
      → half_search m s direction q ≡ whole_walk m direction q (start_row m s (beside direction q) q.mode)
  half_walks d e = rw d (ap (λ o. from_start direction q o walked) e)

-- answers of a search that tells, and that one is no error
pub told_same : (a b : Option HalfMatch) → ◌≡◌ {A = HalfAnswer} (Ok a) (Ok b) → a ≡ b
told_same a b e = cc

pub error_not_told : (error : MatchError) (h : Option HalfMatch) → ◌≡◌ {A = HalfAnswer} (Err error) (Ok h) → ⊥
error_not_told error h e = cc

-- What a search that tells says of its start.
pub record Begun {R : Type 0} (m : Machine R) (s : Settings) (direction : Direction) (q : Query) (h : Option HalfMatch)
    : Type 0 where
  pub order : q.start ≤ q.end
  pub start : IsStarted s (beside direction q) q.mode
  pub walked : whole_walk m direction q (start_row m s (beside direction q) q.mode) ≡ Ok h

pub half_begun : {R : Type 0} (m : Machine R) (s : Settings) (direction : Direction) (q : Query) (h : Option HalfMatch)
    → half_search m s direction q ≡ Ok h → ((q.end < q.start) × (h ≡ None)) ⊎ Begun m s direction q h
half_begun m s direction q h e = grind (arith, common_steps, begins, told_same, half_done)
