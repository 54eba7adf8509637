-- Matches that split a character are passed over, turn by turn.
use Rattle.rx_spec.proofs.Prelude.{common_steps, ◌≡◌, ℕ, suc, ◌-◌, ◌<◌, ◌≤◌, Bool, true, false, if◌then◌else◌, Some}
use Rattle.rx_spec.proofs.Prelude.{None, Ok, Err, length, refl, arith, IsTrue, ◌↔◌, Query, HalfMatch, MatchError, IsFit}
use Rattle.rx_spec.proofs.Prelude.{is_anchored, HalfAnswer, half_search, Table, is_split, narrower, is_narrowest}
use Rattle.rx_spec.proofs.Prelude.{unless_split, skip_splits, split_limit, skips_splits, half_unsplit}
use Rattle.rx_lemmas.proofs.ToldInSpan.{half_within}
use Rattle.rx_spec.specs.declared.Direction.{Direction}
use Rattle.rx_search.specs.SplitSearches.{unsplit_from}
use Rattle.rx_search.specs.Walks.{IsInSpan}

-- a turn
turn : (search : Query → HalfAnswer) (direction : Direction) (n : ℕ) (q : Query)
    → skip_splits search direction (suc n) q
    ≡ unless_split direction q (search q) (skip_splits search direction n (narrower direction q))
unfolding skip_splits
turn search direction n q = refl

module _ (search : Query → HalfAnswer) (direction : Direction) (q : Query) where
  abbrev again : HalfAnswer
  again = skip_splits search direction (split_limit (narrower direction q)) (narrower direction q)

  -- and else what the narrower search tells
  pub searched_again : (h : HalfMatch) → is_split q.haystack h.offset ≡ true
      → is_anchored q.mode ≡ false → is_narrowest direction q ≡ false
      → unsplit_from search direction q h
      ≡ skip_splits search direction (split_limit (narrower direction q)) (narrower direction q)
  searched_again h e goes more = grind (arith, common_steps)

-- what a search of a query that fits tells, by the search's own answer
limit_more : (direction : Direction) (q : Query) → IsFit q → is_narrowest direction q ≡ false
    → split_limit q ≡ suc (split_limit (narrower direction q))
limit_more Direction.Forward q fits e = let ordered = fits.ordered in omega arith
limit_more Direction.Reverse q fits e = grind (arith, common_steps)

module _ (search : Query → HalfAnswer) (direction : Direction) {q : Query} (fits : IsFit q) where
  -- some turn is left
  some_turn : (split_limit q ≡ suc (split_limit q - 1))
  some_turn = let ordered = fits.ordered in omega arith

  pub nothing_found : search q ≡ Ok None → skip_splits search direction (split_limit q) q ≡ Ok None
  nothing_found e = grind (arith, common_steps, some_turn, turn)

  pub search_failed : (error : MatchError) → search q ≡ Err error
      → skip_splits search direction (split_limit q) q ≡ Err error
  search_failed error e = grind (arith, common_steps, some_turn, turn)

  pub match_found : (h : HalfMatch) → search q ≡ Ok (Some h)
      → skip_splits search direction (split_limit q) q ≡ unsplit_from search direction q h
  match_found h e = grind (arith, common_steps, some_turn, turn)

-- ---- turns of the code

-- so of a match that was told
pub split_found : {q : Query} {told offset : ℕ} {boundary : Bool} → IsFit q → IsInSpan q told → offset ≡ told
    → (IsTrue boundary ↔ ((offset ≤ length q.haystack) × (is_split q.haystack offset ≡ false))) → boundary ≡ false
    → is_split q.haystack told ≡ true
split_found {q} {told} {offset} fits span same is none = grind (arith, common_steps)

pub next_fits : (direction : Direction) {now next : Query} {offset : ℕ} → IsFit now → IsInSpan now offset
    → next ≡ narrower direction now → is_narrowest direction now ≡ false → IsFit next
next_fits direction fits span is more = grind (arith, common_steps)

pub limit_falls : (direction : Direction) {q : Query} → IsFit q → is_narrowest direction q ≡ false
    → split_limit (narrower direction q) < split_limit q
limit_falls direction {q} fits more = let one = limit_more direction q fits more in omega arith

-- ---- half searches of a table

module _ (t : Table) (direction : Direction) {q : Query} (fits : IsFit q) where
  abbrev searched : Query → HalfAnswer
  searched = half_search t.machine t.settings direction

  by_skips : {x y z : HalfAnswer} (skips : Bool) → x ≡ z → y ≡ z → (if skips then x else y) ≡ z
  by_skips true e f = e
  by_skips false e f = f

  pub unsplit_none : half_search t.machine t.settings direction q ≡ Ok None → half_unsplit t direction q ≡ Ok None
  unsplit_none e = by_skips (skips_splits t) (nothing_found searched direction fits e) e

  pub unsplit_fails : (error : MatchError) → half_search t.machine t.settings direction q ≡ Err error
      → half_unsplit t direction q ≡ Err error
  unsplit_fails error e = by_skips (skips_splits t) (search_failed searched direction fits error e) e

  pub unsplit_match : (h : HalfMatch) → skips_splits t ≡ true
      → half_search t.machine t.settings direction q ≡ Ok (Some h)
      → half_unsplit t direction q ≡ unsplit_from (half_search t.machine t.settings direction) direction q h
  unsplit_match h e found = grind (arith, common_steps, match_found)

  pub told_in_span : (h : HalfMatch) → half_search t.machine t.settings direction q ≡ Ok (Some h) → IsInSpan q h.offset
  told_in_span h e = grind (arith, common_steps, half_within)
