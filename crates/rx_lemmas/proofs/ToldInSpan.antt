-- What a half search tells lies in the span of its query, and so where splits are passed over.
use Rattle.rx_spec.proofs.Prelude.{rules, ◌≡◌, ℕ, zero, suc, ◌≤◌, Bool, true, false, if◌then◌else◌, Some, None, refl}
use Rattle.rx_spec.proofs.Prelude.{◌∙◌, arith, common_steps, Ok, Err, Query, HalfMatch, Machine, Settings, HalfAnswer}
use Rattle.rx_spec.proofs.Prelude.{half_search, narrower, unless_split, skip_splits, half_unsplit, Table}
use Rattle.rx_spec.specs.declared.Direction.{Direction}
use Rattle.rx_lemmas.proofs.WalkBounds.{half_in_span}
use Rattle.rx_lemmas.proofs.Splits.{NoneWhenDone}

-- an offset that a query's span has
pub record IsIn (q : Query) (h : HalfMatch) : Type 0 where
  pub from : q.start ≤ h.offset
  pub upto : h.offset ≤ q.end

-- a search that tells no other
abbrev pub TellsWithin : (Query → HalfAnswer) → Type 0
TellsWithin search = (q : Query) (h : HalfMatch) → search q ≡ Ok (Some h) → IsIn q h

pub half_within : {R : Type 0} (m : Machine R) (s : Settings) (direction : Direction)
    → TellsWithin (half_search m s direction)
half_within m s direction q h e = grind (arith, common_steps, half_in_span)

-- ---- where splits are passed over

module _ (search : Query → HalfAnswer) (direction : Direction) where
  wider : (direction : Direction) (q : Query) (h : HalfMatch) → IsIn (narrower direction q) h → IsIn q h
  wider Direction.Forward q h is = grind (arith, common_steps)
  wider Direction.Reverse q h is = grind (arith, common_steps)

  pub splits_within : TellsWithin search → (n : ℕ) → TellsWithin (skip_splits search direction n)
  unfolding skip_splits
  splits_within within zero q h e = grind (arith, common_steps)
  splits_within within (suc n) q h e =
      by_answer (search q) refl e (λ again. wider direction q h (splits_within within n (narrower direction q) h again))
    where
      by_answer : (answer : HalfAnswer) → search q ≡ answer
          → unless_split direction q answer (skip_splits search direction n (narrower direction q)) ≡ Ok (Some h)
          → (skip_splits search direction n (narrower direction q) ≡ Ok (Some h) → IsIn q h) → IsIn q h
      by_answer (Ok None) is e others = absurd (cc)
      by_answer (Err error) is e others = absurd (cc)
      by_answer (Ok (Some g)) is e others = grind (arith, common_steps, by_split)
        where
          by_split : (splits last : Bool)
              → (if splits
              then (if last then Ok None else skip_splits search direction n (narrower direction q))
              else Ok (Some g)) ≡ Ok (Some h)
              → IsIn q h
          by_split true true e = absurd (cc)
          by_split true false e = others e
          by_split false last e = within q h (is ∙ e)

  pub splits_when_done : NoneWhenDone search → (n : ℕ) → NoneWhenDone (skip_splits search direction n)
  unfolding skip_splits
  splits_when_done none zero q done = refl
  splits_when_done none (suc n) q done = grind (arith, common_steps)

pub unsplit_within : (t : Table) (direction : Direction) → TellsWithin (half_unsplit t direction)
unsplit_within t direction q h e = search (rules, half_within, splits_within)

pub unsplit_when_done : (t : Table) (direction : Direction) → NoneWhenDone (half_unsplit t direction)
unsplit_when_done t direction q done = grind (arith, common_steps, splits_when_done)
