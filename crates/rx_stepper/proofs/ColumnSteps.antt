-- What a column leads to, from what was gathered for it.
use Rattle.rx_spec.proofs.Prelude.{◌≡◌, ℕ, ◌^◌, ◌<◌, ◌++◌, Bool, true, false, if◌then◌else◌, List, [], length, Option}
use Rattle.rx_spec.proofs.Prelude.{None, Some, ap, ap₂, sym, ◌∙◌, subst, arith, Bor, IfSome, slice_index, option_copied}
use Rattle.rx_spec.proofs.Prelude.{option_map_or, State, step}
use Rattle.rx_stepper.proofs.Prelude.{AreGroups, Current, FitsCurrent, FitsLead, IsLeadOf, LeadIn, LeadSteps, Stand}
use Rattle.rx_stepper.proofs.Prelude.{ColumnSteps, Table, bits_of, facts_with, lead_of, led_of, made, matches_in}
use Rattle.rx_stepper.proofs.Prelude.{patterns_of, spelled, targets_in, units_of, without}
use Rattle.rx_stepper.proofs.KeyLaws.{bits_small}
use Rattle.rx_stepper.proofs.StepLaws.{step_made}
use Rattle.rx_stepper.proofs.StepperParts.{gathers}

-- where the lead-in's rows lead on a column, and those of them that match beside some others, where they go on
abbrev pub targets_by : Option (Bor ColumnSteps) → ℕ → List ℕ
targets_by lead column = option_map_or (λ b. targets_in b.now column) lead []

abbrev pub matches_by : Option (Bor ColumnSteps) → List ℕ → ℕ → List ℕ
matches_by lead mine group = option_map_or (λ b. without mine (matches_in b.now group)) lead []

-- what is gathered for a column, and the label of its group
abbrev pub targets_for : Current → Option (Bor ColumnSteps) → ℕ → List ℕ
targets_for current lead column = targets_in current.steps column ++ targets_by lead column

abbrev pub label_for : Table → Current → Option (Bor ColumnSteps) → ℕ → List ℕ
label_for t current lead group =
    let mine = matches_in current.steps group in
    patterns_of t.nfa.rows (mine ++ matches_by lead mine group)

abbrev pub group_in : Table → ℕ → ℕ
group_in t column = slice_index t.columns.groups.of.items column

abbrev pub unit_in : Table → ℕ → ℕ
unit_in t column = slice_index (units_of t.classes) column

abbrev pub state_in : Table → Current → State
state_in t current = spelled (lead_of t.nfa) current.key.items

module _ {t : Table} {lead_in : LeadIn} {leads : List LeadSteps} {current : Current}
    (groups : AreGroups t.nfa (units_of t.classes) t.columns.groups.of.items) (fits_lead : FitsLead t lead_in leads)
    (fits : FitsCurrent t leads current) where
  -- the state that follows is made of it
  pub column_made : (column : ℕ) → column < length (units_of t.classes) → (lead : Option (Bor ColumnSteps))
      → IsLeadOf current leads t.kind (group_in t column) (option_copied lead)
      → step t.nfa t.kind (state_in t current) (unit_in t column)
      ≡ made t.nfa (targets_for current lead column) (facts_with (group_in t column))
      (label_for t current lead (group_in t column))
  column_made column h lead is =
      let s : Stand = record { nfa = t.nfa; kind = t.kind; state = state_in t current } in
      step_made s (unit_in t column) (gathers t fits_lead fits column h lead is).leads
      ∙ ap (λ f. made t.nfa (targets_for current lead column) f (label_for t current lead (group_in t column)))
      (sym (groups.each column h).facts)

  -- its label isn't too long for a key
  pub column_few : (column : ℕ) → column < length (units_of t.classes) → (lead : Option (Bor ColumnSteps))
      → IsLeadOf current leads t.kind (group_in t column) (option_copied lead)
      → length (label_for t current lead (group_in t column)) < 2 ^ 32
  column_few column h lead is = (gathers t fits_lead fits column h lead is).few

  -- columns of one group for which equal lists are gathered lead to one state
  pub columns_alike : (column other : ℕ) → column < length (units_of t.classes) → other < length (units_of t.classes)
      → (lead : Option (Bor ColumnSteps)) → group_in t column ≡ group_in t other
      → IsLeadOf current leads t.kind (group_in t column) (option_copied lead)
      → targets_for current lead column ≡ targets_for current lead other
      → step t.nfa t.kind (state_in t current) (unit_in t column)
      ≡ step t.nfa t.kind (state_in t current) (unit_in t other)
  columns_alike column other h k lead same is equal =
      column_made column h lead is
      ∙ ap₂ (λ from g. made t.nfa from (facts_with g) (label_for t current lead g)) equal same
      ∙ sym (column_made other k lead
      (subst (λ g. IsLeadOf current leads t.kind g (option_copied lead)) same is))

  -- where the lead-in's rows are asked for, there are such
  pub led_within : IfSome current.led_in (λ context. context < length leads)
  led_within =
      within current.led_in (slice_index current.key.items 0) (led_of current.key.items) fits.led_in
    where
      small : (n : ℕ) → bits_of (facts_with n) < length leads
      small n = omega (arith, bits_small (facts_with n))

      within : (o : Option ℕ) (n : ℕ) (b : Bool) → o ≡ (if b then Some (bits_of (facts_with n)) else None)
          → IfSome o (λ context. context < length leads)
      within o n true e = subst (λ v. IfSome v (λ context. context < length leads)) (sym e) (small n)
      within o n false e = subst (λ v. IfSome v (λ context. context < length leads)) (sym e) tt

  -- and they have each column
  pub lead_column : (column group : ℕ) → column < length (units_of t.classes) → (lead : Option (Bor ColumnSteps))
      → IsLeadOf current leads t.kind group (option_copied lead)
      → IfSome lead (λ steps. column < length steps.now.targets.items)
  lead_column column group h None is = tt
  lead_column column group h (Some b) is =
      let len = fits_lead.columns is.context is.lead is.there in
      subst (λ s. column < length s.targets.items) (sym is.steps_are) (omega arith)

-- The lists that are gathered for a column, which is of a group.
pub record IsGathered (t : Table) (leads : List LeadSteps) (current : Current) (lead : Option (Bor ColumnSteps))
    (column group : ℕ) (from label : List ℕ) : Type 0 where
  pub within : column < length (units_of t.classes)
  pub group_is : group ≡ group_in t column
  pub lead_is : IsLeadOf current leads t.kind group (option_copied lead)
  pub from_is : from ≡ targets_for current lead column
  pub label_is : label ≡ label_for t current lead group

module _ {t : Table} {lead_in : LeadIn} {leads : List LeadSteps} {current : Current} {lead : Option (Bor ColumnSteps)}
    {column group : ℕ} {from label : List ℕ} (g : IsGathered t leads current lead column group from label)
    (groups : AreGroups t.nfa (units_of t.classes) t.columns.groups.of.items) (fits_lead : FitsLead t lead_in leads)
    (fits : FitsCurrent t leads current) where
  lead_there : IsLeadOf current leads t.kind (group_in t column) (option_copied lead)
  lead_there = subst (λ n. IsLeadOf current leads t.kind n (option_copied lead)) g.group_is g.lead_is

  label_there : label ≡ label_for t current lead (group_in t column)
  label_there = g.label_is ∙ ap (label_for t current lead) g.group_is

  pub gathered_few : length label < 2 ^ 32
  gathered_few = omega (arith, ap length label_there, column_few groups fits_lead fits column g.within lead lead_there)

  pub gathered_made : made t.nfa from (facts_with group) label
      ≡ step t.nfa t.kind (state_in t current) (unit_in t column)
  gathered_made =
      ap₂ (λ xs f. made t.nfa xs f label) g.from_is (ap facts_with g.group_is)
      ∙ ap (made t.nfa (targets_for current lead column) (facts_with (group_in t column))) label_there
      ∙ sym (column_made groups fits_lead fits column g.within lead lead_there)
