-- Searches that are made of half searches are alike in a mode where these are: with matches inside a character passed
-- over, joined, and one after another. Each asks only queries of its own mode, and of the anchored one in reverse.
use Rattle.rx_spec.proofs.Prelude.{arith, ◌≡◌, ℕ, suc, zero, ◌-◌, Bool, true, false, if◌then◌else◌, Some, Ok, refl, ap}
use Rattle.rx_spec.proofs.Prelude.{ap₂, ◌∙◌, common_steps, AreBytes, Anchored, Query, Table, HalfAnswer, half_search}
use Rattle.rx_spec.proofs.Prelude.{narrower, unless_split, skip_splits, split_limit, skips_splits, half_unsplit}
use Rattle.rx_spec.proofs.Prelude.{with_end, joined_search, join}
use Rattle.rx_spec.specs.declared.Direction.{Direction}
use Rattle.rx_lemmas.proofs.ReadUnits.{narrower_bytes}
use Rattle.rx_meaning.proofs.IteratedSearches as iterated
use Rattle.rx_equal.specs.Partings.{IsModeOf}
use Rattle.rx_equal.specs.Searches.{MeanTheSame, PairsMeanTheSame, HalfUnsplitAlike, OverlappingUnsplitAlike, JoinAlike}
use Rattle.rx_equal.specs.Searches.{IterateAlike}
use Rattle.rx_equal.proofs.Searches.{half_alike, overlapping_alike}

-- on every haystack of bytes two searches answer the same in a mode
abbrev AlikeIn : {A : Type 0} → Anchored → (Query → A) → (Query → A) → Type 0
AlikeIn mode g h = (q : Query) → AreBytes q.haystack → q.mode ≡ mode → g q ≡ h q

-- ---- matches inside a character passed over

narrower_mode : (direction : Direction) (q : Query) → (narrower direction q).mode ≡ q.mode
narrower_mode Direction.Forward q = refl
narrower_mode Direction.Reverse q = refl

skips_alike : (mode : Anchored) (g h : Query → HalfAnswer) → AlikeIn mode g h → (direction : Direction) (n : ℕ)
    → AlikeIn mode (skip_splits g direction n) (skip_splits h direction n)
unfolding skip_splits
skips_alike mode g h alike direction zero q bytes is = refl
skips_alike mode g h alike direction (suc n) q bytes is =
    ap₂ (unless_split direction q) (alike q bytes is)
    (skips_alike mode g h alike direction n (narrower direction q) (narrower_bytes direction q bytes)
    (narrower_mode direction q ∙ is))

-- as a flag says
abbrev unsplit : Bool → (Query → HalfAnswer) → Direction → Query → HalfAnswer
unsplit skips search direction q = if skips then skip_splits search direction (split_limit q) q else search q

unsplit_alike : (skips : Bool) (mode : Anchored) (g h : Query → HalfAnswer) → AlikeIn mode g h
    → (direction : Direction) → AlikeIn mode (unsplit skips g direction) (unsplit skips h direction)
unsplit_alike true mode g h alike direction q bytes is = grind (arith, common_steps, skips_alike)
unsplit_alike false mode g h alike direction q bytes is = alike q bytes is

module _ (t u : Table) (same : MeanTheSame t u) (direction : Direction) where
  tables_alike : (mode : Anchored) → IsModeOf t u mode
      → AlikeIn mode (half_search t.machine t.settings direction) (half_search u.machine u.settings direction)
  tables_alike mode is q bytes e = grind (arith, common_steps, half_alike)

  half_unsplit_in : (mode : Anchored) → IsModeOf t u mode
      → AlikeIn mode (half_unsplit t direction) (half_unsplit u direction)
  half_unsplit_in mode is q bytes e =
      unsplit_alike (skips_splits t) mode (half_search t.machine t.settings direction)
      (half_search u.machine u.settings direction) (tables_alike mode is) direction q bytes e
      ∙ ap (λ v. unsplit v (half_search u.machine u.settings direction) direction q) same.skips

pub half_unsplit_alike : HalfUnsplitAlike
half_unsplit_alike t u same direction q bytes is = half_unsplit_in t u same direction q.mode is q bytes refl

pub overlapping_unsplit_alike : OverlappingUnsplitAlike
overlapping_unsplit_alike t u same direction q bytes is = grind (arith, common_steps, overlapping_alike)

-- ---- joined

with_end_alike : (g h : Query → HalfAnswer) → AlikeIn Anchored.Yes g h → (always : Bool) (q : Query)
    → AreBytes q.haystack → (o : HalfAnswer) → with_end g always q o ≡ with_end h always q o
with_end_alike g h alike always q bytes (Ok (Some end)) = grind (arith, common_steps)
with_end_alike g h alike always q bytes _ = refl

module _ (f r g s : Table) (same : PairsMeanTheSame f r g s) (mode : Anchored) (is : IsModeOf f g mode) where
  join_in : AlikeIn mode (join f r) (join g s)
  join_in q bytes e =
      let always = f.is_always_start_anchored in
      ap (with_end (half_unsplit r Direction.Reverse) always q)
      (half_unsplit_in f g same.forward Direction.Forward mode is q bytes e)
      ∙ with_end_alike (half_unsplit r Direction.Reverse) (half_unsplit s Direction.Reverse)
      (half_unsplit_in r s same.reverse Direction.Reverse Anchored.Yes tt) always q bytes
      (half_unsplit g Direction.Forward q)
      ∙ ap (λ v. joined_search (half_unsplit g Direction.Forward) (half_unsplit s Direction.Reverse) v q) same.anchored

pub join_alike : JoinAlike
join_alike f r g s same q bytes is = join_in f r g s same q.mode is q bytes refl

-- ---- one after another

pub iterate_alike : IterateAlike
iterate_alike f r g s same q bytes is =
    iterated.iterate_alike (join f r) (join g s) q q
    (λ start. join_in f r g s same q.mode is (record q { start = start }) bytes refl) refl refl
