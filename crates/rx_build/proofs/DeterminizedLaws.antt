-- A table with all states that are reached, whose rows are put in order.
use Rattle.rx_spec.proofs.Prelude.{◌≡◌, ◌≤◌, length, ap, ◌∙◌, concat, Build, max_id, IsSound}
use Rattle.rx_dense.specs.Builder.{Beginning, initial}
use Rattle.rx_dense.specs.Layouts.{Layout, table_of}
use Rattle.rx_dense.specs.MatchRows.{IsRouted, Matches}
use Rattle.rx_order.specs.Ordering.{IsShuffled}
use Rattle.rx_order.specs.RowOrder.{match_lists}
use Rattle.rx_determinize.specs.Building.{HasStates, IsStartedOver}
use Rattle.rx_build.specs.Determinized.{IsDeterminized}
use Rattle.rx_build.proofs.PermutedLaws.{permuted_power}

-- what shuffling leaves
pub record IsInPlace (l : Layout) (matches : Matches) (new : Layout) : Type 0 where
  pub shuffled : IsShuffled l matches new
  pub sound : IsRouted (table_of l) → IsSound (table_of new)
  pub joined : length (concat (match_lists new)) ≤ max_id

pub determinized : {b : Build} {begun l new : Layout} {matches : Matches} (beginning : Beginning)
    → begun ≡ initial beginning → IsStartedOver begun l → HasStates b l matches → IsInPlace l matches new
    → IsDeterminized b begun new
determinized {b} {begun} {l} {new} {matches} beginning is over has ends =
    let s = ends.shuffled in
    let rest =
    s.rest ∙ ap (λ (k : Layout). record k {
      words = new.words;
      starts = new.starts;
      slices = new.slices;
      pattern_ids = new.pattern_ids;
      special = new.special;
    }) over.rest in
    record {
      power = permuted_power l new has s.permuted s.labels;
      in_order = record { sound = ends.sound has.routed; ordered = s.ordered; few = ends.joined };
      plain = record {
        accels = ap (λ (k : Layout). k.accels) rest ∙ ap (λ (k : Layout). k.accels) is;
        min_accel = s.unaccelerated.0;
        max_accel = s.unaccelerated.1;
        universal_unanchored =
            ap (λ (k : Layout). k.universal_unanchored) rest ∙ ap (λ (k : Layout). k.universal_unanchored) is;
        universal_anchored =
            ap (λ (k : Layout). k.universal_anchored) rest ∙ ap (λ (k : Layout). k.universal_anchored) is;
      };
      marked = s.marked;
      joined = s.joined;
      rest = rest;
    }
