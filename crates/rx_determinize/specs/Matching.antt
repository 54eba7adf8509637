-- The patterns of match rows: the labels of keys, by the ids of their rows.
use Rattle.std.specs.Prelude.{ℕ, ◌≡◌, ◌<◌, ◌≤◌, ◌+◌, ◌*◌, Option, Some, None, List, [], length, slice_get, sum_by, Vec}
use Rattle.std.specs.BTreeMap.{get}
use Rattle.std.specs.List.{concat}
use Rattle.std.specs.Ordering.{nat_cmp}
use Rattle.std.specs.declared.alloc.Global.{Global}
use Rattle.rx_dense.specs.Builder.{pattern_lists}
use Rattle.rx_dense.specs.Layouts.{Layout, stride}
use Rattle.rx_dense.specs.MatchRows.{Matches}
use Rattle.rx_stepper.specs.Keys.{label_of}

-- the patterns that a map has for an id; none are no patterns
abbrev pub patterns_told : Option (Vec ℕ Global) → List ℕ
patterns_told None = []
patterns_told (Some patterns) = patterns.items

-- patterns are the label of a key, and stand at the id of its row
pub record IsLabelAt (keys : List (List ℕ)) (l : Layout) (id : ℕ) (patterns : List ℕ) : Type 0 where
  pub place : ℕ
  pub key : List ℕ
  pub there : slice_get keys place ≡ Some key
  pub id_is : id ≡ (place + 2) * stride l
  pub label : patterns ≡ label_of key
  pub some : 0 < length patterns

-- A map has the label of each key that has one, and nothing else.
pub record AreLabels (keys : List (List ℕ)) (l : Layout) (matches : Matches) : Type 0 where
  pub told : (place : ℕ) (key : List ℕ) → slice_get keys place ≡ Some key
      → patterns_told (get nat_cmp matches ((place + 2) * stride l)) ≡ label_of key
  pub only : (id : ℕ) (patterns : Vec ℕ Global) → get nat_cmp matches id ≡ Some patterns
      → IsLabelAt keys l id patterns.items
  pub count : length (concat (pattern_lists matches)) ≤ sum_by (λ key. length (label_of key)) keys
