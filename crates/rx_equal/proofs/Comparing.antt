-- What the walk that compares two tables keeps, and what it answers.
use Rattle.rx_spec.proofs.Prelude.{common_steps, ℕ, ◌≡◌, ◌+◌, ◌<◌, ◌≤◌, Option, None, Some, List, [], get_or, length}
use Rattle.rx_spec.proofs.Prelude.{subst, arith, slice_get, length-map, slice_get-get_or}
use Rattle.rx_spec.specs.declared.Unit.{Unit}
use Rattle.rx_base.specs.Unit.{unit_number}
use Rattle.rx_equal.specs.declared.evidence.Parting.{Parting}
use Rattle.rx_equal.specs.declared.walk.Walk.{Walk}
use Rattle.rx_equal.specs.Evidence.{RowPair, next_pair}
use Rattle.rx_equal.specs.Pairs.{AreKept, pairs_of, rows_of}
use Rattle.rx_equal.specs.Places.{HaveNexts, MeetAll}
use Rattle.rx_equal.specs.Walks.{AreLabelled, AreWalked, IsApart, IsEqual, IsPathTo, LookedAtAll, SteppedAll, WentOn}
use Rattle.rx_base.specs.StartConfig.{StartConfig}
use Rattle.rx_equal.proofs.Layers.{Layers, ahead, apart_by, layers_first, layers_on}
use Rattle.rx_equal.proofs.Sides.{Sides}
use Rattle.rx_equal.proofs.Tests.{EachBelow, each_contained, each_more}
use Rattle.rx_equal.proofs.Walks.{extends_back, extends_contains, extends_get, extends_meet, is_equal}

-- the pairs of a walk
abbrev pub pairs_in : Sides → Walk → List RowPair
pairs_in s w = pairs_of s.ids s.others w.pairs

-- a walk that took care of all places, and of the successors of the pairs below a number
pub record IsUnderWay (s : Sides) (w : Walk) (at : ℕ) : Type 0 where
  pub walked : AreWalked s.t s.ids s.u s.others w
  pub labels : AreLabelled s.t s.u (pairs_in s w)
  pub met : MeetAll s.t s.u (pairs_in s w)
  pub layers : Layers s.t s.u w.links (pairs_in s w) at
  pub nexts : EachBelow (HaveNexts s.t s.u (pairs_in s w)) (pairs_in s w) at

pub walked_none : {s : Sides} {w : Walk} → AreKept s.ids s.others w.pairs → pairs_in s w ≡ [] → w.links ≡ []
    → AreWalked s.t s.ids s.u s.others w
walked_none {s} {w} kept none no_links = grind (arith, common_steps)

-- all places were looked at, and the tables differ at none of them
pub way_begins : {s : Sides} {before w : Walk} {found : Option StartConfig} → before.links ≡ []
    → WentOn s.t s.ids s.u s.others None before w → LookedAtAll s.t s.u (pairs_in s w) found → found ≡ None
    → IsUnderWay s w 0
way_begins {s} {before} {w} no_links went looked none = grind (arith, common_steps, layers_first)

-- the length of the list of ids is that of the pairs
count_in : (s : Sides) (w : Walk) → length (pairs_in s w) ≡ length w.pairs.list.items
count_in s w = length-map w.pairs.list.items (rows_of s.ids s.others)

module _ {s : Sides} {w : Walk} {at : ℕ} (way : IsUnderWay s w at) where
  pub way_ends : length w.pairs.list.items ≤ at → IsEqual s.t s.u w.links
  way_ends past =
      let pairs = pairs_in s w in
      is_equal way.walked.walk (record {
        labels = way.labels;
        nexts = λ p unit there small.
            each_contained (HaveNexts s.t s.u pairs) pairs way.nexts (omega (arith, count_in s w)) p there unit
            small;
        starts = way.met;
      })

  -- from the pair at the number on
  module _ (more : at < length w.pairs.list.items) where
    inside : at < length (pairs_in s w)
    inside = omega (arith, count_in s w)

    here : (p : RowPair) × (slice_get (pairs_in s w) at ≡ Some p)
    here =
        let none : RowPair = record { row = 0; other = 0 } in
        (get_or (pairs_in s w) at none, slice_get-get_or (pairs_in s w) at none inside)

    there : (l : Layers s.t s.u w.links (pairs_in s w) at) × (at < l.end)
    there = ahead way.walked.walk at way.layers inside way.nexts

    module _ {after : Walk} {found : Option Unit} (went : WentOn s.t s.ids s.u s.others (Some at) w after)
        (stepped : (p : RowPair) → slice_get (pairs_in s w) at ≡ Some p
        → SteppedAll s.t s.u p (pairs_in s after) found) where
      pub way_parts : (unit : Unit) (p : Parting) → found ≡ Some unit
          → IsPathTo s.t s.u after.links (pairs_in s after) at (unit_number unit) p → IsApart s.t s.u p
      way_parts unit p is path =
          let differ = subst (SteppedAll s.t s.u here.0 (pairs_in s after)) is (stepped here.0 here.1) in
          apart_by way.walked.walk at (unit_number unit) p here.0 after.links (pairs_in s after) there.0 there.1
          way.met way.labels went.links went.walked.walk path (extends_get went.extends at here.0 here.1) differ.1

      pub way_goes_on : found ≡ None → IsUnderWay s after (at + 1)
      way_goes_on none =
          let pairs = pairs_in s after in
          let done = subst (SteppedAll s.t s.u here.0 pairs) none (stepped here.0 here.1) in
          record {
            walked = went.walked;
            labels = done.0;
            met = λ place is. extends_meet went.extends s.t s.u place (way.met place is);
            layers = layers_on way.walked.walk at there.0 there.1 after.links pairs went.links went.extends;
            nexts = each_more (HaveNexts s.t s.u pairs) pairs at
                (λ k h p e unit small. extends_contains went.extends (next_pair s.t s.u p unit)
                (way.nexts k h p (extends_back went.extends k p (omega arith) e) unit small))
                (extends_get went.extends at here.0 here.1) done.1;
          }
