-- What a column needs of the steps of some rows.
use Rattle.std.specs.Prelude.{ℕ, ◌≡◌, true, false, ◌⊎◌, Option, Some, None, List, [], map, slice_get}
use Rattle.rx_spec.specs.declared.MatchKind.{MatchKind}
use Rattle.rx_stepper.specs.Columns.{list_at}
use Rattle.rx_stepper.specs.Steps.{goes_on}
use Rattle.rx_stepper.specs.declared.current.Current.{Current}
use Rattle.rx_stepper.specs.declared.lead_steps.LeadSteps.{LeadSteps}
use Rattle.rx_stepper.specs.declared.steps.ColumnSteps.{ColumnSteps}

-- where they lead on a column, and those of them that match before a unit of a group
abbrev pub targets_in : ColumnSteps → ℕ → List ℕ
targets_in steps column = list_at (map (λ v. v.items) steps.targets.items) column

abbrev pub matches_in : ColumnSteps → ℕ → List ℕ
matches_in steps group = list_at (map (λ v. v.items) steps.matches.items) group

-- The lead-in's rows follow those of the current state, and go on before the units of a group.
pub record Follows (current : Current) (leads : List LeadSteps) (kind : MatchKind) (group : ℕ) (steps : ColumnSteps)
    : Type 0 where
  pub context : ℕ
  pub lead : LeadSteps
  pub led_in : current.led_in ≡ Some context
  pub there : slice_get leads context ≡ Some lead
  pub steps_are : steps ≡ lead.steps
  pub goes_on : goes_on kind (matches_in current.steps group) ≡ true

-- what is added to a group's columns by the lead-in
abbrev pub IsLeadOf : Current → List LeadSteps → MatchKind → ℕ → Option ColumnSteps → Type 0
IsLeadOf current leads kind group None =
    (current.led_in ≡ None) ⊎ (goes_on kind (matches_in current.steps group) ≡ false)
IsLeadOf current leads kind group (Some steps) = Follows current leads kind group steps

-- On a column of a group the lead-in's rows alone go on: none of the current state's own ones matches before its unit,
-- or reads it.
pub record IsLone (current : Current) (column group context : ℕ) : Type 0 where
  pub led_in : current.led_in ≡ Some context
  pub targets : targets_in current.steps column ≡ []
  pub matches : matches_in current.steps group ≡ []
