-- Where the match begins of which a forward search told the end: then the joined search answers that match.
use Rattle.rx_spec.proofs.Prelude.{common_steps, ◌≡◌, ℕ, Bool, true, false, Some, Ok, refl, arith, Anchored}
use Rattle.rx_spec.proofs.Prelude.{is_anchored, HalfMatch, is_always_start_anchored, HalfAnswer, match_at, with_end}
use Rattle.rx_plan.specs.Plans.{plan_nfa, plan_build}
use Rattle.rx_spec.specs.declared.Direction.{Direction}
use Rattle.rx_meaning.specs.Preference.{build_half_search}
use Rattle.rx_meaning.specs.Mirrored.{least_start}
use Rattle.rx_meaning.specs.Joined.{IsMatch}
use Rattle.rx_meaning.proofs.Scan.{PlanQuery}
use Rattle.rx_meaning.proofs.ReverseSearch.{start_of_end_holds}

-- whether one start serves anchored and unanchored searches
abbrev pub always : PlanQuery → Bool
always a = is_always_start_anchored (plan_nfa a.plan Direction.Forward a.expressions)

-- the half searches of what is asked
abbrev pub half : PlanQuery → Direction → HalfAnswer
half a direction = build_half_search (plan_build a.plan direction a.expressions) direction a.query

-- A match of pattern k that ends at j. It begins at the span's start where an anchored search would, and else at
-- the least start from which some pattern ends there.
pub record Begins (a : PlanQuery) (k j : ℕ) : Type 0 where
  pub start : ℕ
  pub is_match : IsMatch a.expressions a.plan.line_terminator a.query k start j
  pub anchored : is_anchored a.query.mode ≡ true → start ≡ a.query.start
  pub edge : always a ≡ true → start ≡ a.query.start
  pub least : a.query.mode ≡ Anchored.No → always a ≡ false
      → least_start a.expressions a.plan.line_terminator (record a.query { end = j })
      ≡ Some (record { pattern = k; offset = start })

pub not_anchored : (mode : Anchored) → is_anchored mode ≡ false → mode ≡ Anchored.No
not_anchored Anchored.No e = refl
not_anchored Anchored.Yes e = absurd (cc)
not_anchored (Anchored.Pattern k) e = absurd (cc)

pub answered : (a : PlanQuery) (end : HalfMatch) → half a Direction.Forward ≡ Ok (Some end)
    → (b : Begins a end.pattern end.offset)
    → with_end (build_half_search (plan_build a.plan Direction.Reverse a.expressions) Direction.Reverse) (always a)
    a.query (Ok (Some end)) ≡ match_at end.pattern b.start end.offset
answered a end told b = grind (arith, common_steps, start_of_end_holds)
