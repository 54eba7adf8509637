-- A column by which the lead-in's rows alone go on leads where it leads these by themselves.
use Rattle.rx_spec.proofs.Prelude.{common_steps, ◌≡◌, ℕ, zero, suc, ◌<◌, ◌++◌, true, List, [], ◌∷◌, length, None, Some}
use Rattle.rx_spec.proofs.Prelude.{refl, ap, ap₂, sym, ◌∙◌, subst, arith, inl, IfSome, MatchOption, Option, slice_get}
use Rattle.rx_spec.proofs.Prelude.{is_dead_state, Facts, Nfa, fresh, step}
use Rattle.rx_stepper.proofs.Prelude.{AreGroups, Current, FitsCurrent, FitsLead, Follows, IsLone, IsStep, LeadIn}
use Rattle.rx_stepper.proofs.Prelude.{LeadSteps, MatchKind, Stand, Table, asked_of, facts_with, goes_on, lead_of}
use Rattle.rx_stepper.proofs.Prelude.{lone_state, made, matches_in, patterns_of, rows_in, targets_in, units_of, without}
use Rattle.rx_stepper.proofs.ColumnSteps.{column_made, group_in, led_within, state_in, unit_in}
use Rattle.rx_stepper.proofs.Members.{in_nil}
use Rattle.rx_stepper.proofs.StepLaws.{leads_alone, step_made}
use Rattle.rx_stepper.proofs.StepperParts.{behind}
use Rattle.rx_stepper.proofs.Without.{without_none}

there_at : {X : Type 0} (xs : List X) (i : ℕ) → i < length xs → (x : X) × (slice_get xs i ≡ Some x)
there_at [] i h = absurd (omega arith)
there_at (x ∷ xs) zero h = (x, refl)
there_at (x ∷ xs) (suc i) h = there_at xs i (omega arith)

goes_behind_none : (kind : MatchKind) → goes_on kind [] ≡ true
goes_behind_none kind = grind (arith, common_steps)

module _ {t : Table} {lead_in : LeadIn} {leads : List LeadSteps} {current : Current}
    (fits_lead : FitsLead t lead_in leads) (fits : FitsCurrent t leads current) {column context : ℕ}
    (h : column < length (units_of t.classes)) (small : context < 32)
    (lone : IsLone current column (group_in t column) context) where
  abbrev lead : (l : LeadSteps) × (slice_get leads context ≡ Some l)
  lead = there_at leads context (omega arith)

  abbrev follows : Follows current leads t.kind (group_in t column) lead.0.steps
  follows = record {
    context = context;
    lead = lead.0;
    led_in = lone.led_in;
    there = lead.1;
    steps_are = refl;
    goes_on = ap (goes_on t.kind) lone.matches ∙ goes_behind_none t.kind;
  }

  abbrev leads_to : List ℕ
  leads_to = targets_in lead.0.steps column

  abbrev tells : List ℕ
  tells = matches_in lead.0.steps (group_in t column)

  by_state : step t.nfa t.kind (state_in t current) (unit_in t column)
      ≡ made t.nfa leads_to (asked_of t.nfa (unit_in t column)) (patterns_of t.nfa.rows tells)
  by_state =
      let s : Stand = record { nfa = t.nfa; kind = t.kind; state = state_in t current } in
      let asked = asked_of t.nfa (unit_in t column) in
      let told = λ (m : List ℕ). patterns_of t.nfa.rows (m ++ without m tells) in
      step_made s (unit_in t column) (behind t fits_lead fits column h lead.0.steps follows).leads
      ∙ ap₂ (λ (a m : List ℕ). made t.nfa (a ++ leads_to) asked (told m)) lone.targets lone.matches
      ∙ ap (λ (m : List ℕ). made t.nfa leads_to asked (patterns_of t.nfa.rows m))
      (without_none [] tells (λ x i j. in_nil x j))

  by_lead : lone_state t.nfa t.kind t.classes context column
      ≡ made t.nfa leads_to (asked_of t.nfa (unit_in t column)) (patterns_of t.nfa.rows tells)
  by_lead =
      let s : Stand = record { nfa = t.nfa; kind = t.kind; state = rows_in (lead_of t.nfa) (facts_with context) } in
      let Is = λ (rows : List ℕ). IsStep
      (record { nfa = t.nfa; kind = t.kind; state = rows_in rows (facts_with context) }) (unit_in t column) leads_to
      tells in
      let found = fits_lead.steps context lead.0 lead.1 (fits.found context lead.0 lone.led_in lead.1) column h in
      let steps = subst Is fits_lead.is.rows found in
      step_made s (unit_in t column) (leads_alone s (unit_in t column) {own = lead_of t.nfa} steps refl)

  pub lone_step : step t.nfa t.kind (state_in t current) (unit_in t column)
      ≡ lone_state t.nfa t.kind t.classes context column
  lone_step = by_state ∙ sym by_lead

-- what is known of the unit read last is one of 32 numbers
pub lone_small : {t : Table} {lead_in : LeadIn} {leads : List LeadSteps} {current : Current} {column group context : ℕ}
    → AreGroups t.nfa (units_of t.classes) t.columns.groups.of.items → FitsLead t lead_in leads
    → FitsCurrent t leads current → IsLone current column group context → context < 32
lone_small {leads = leads} groups fits_lead fits lone =
    let within = subst (λ o. IfSome o (λ c. c < length leads)) lone.led_in (led_within groups fits_lead fits) in
    omega arith

-- where neither rows of its own nor the lead-in's go on, a state leads to the dead state
made_none : (nfa : Nfa) (asked : Facts) → is_dead_state (made nfa [] asked []) ≡ true
unfolding fresh
made_none nfa asked = refl

module _ {t : Table} {lead_in : LeadIn} {leads : List LeadSteps} {current : Current}
    (groups : AreGroups t.nfa (units_of t.classes) t.columns.groups.of.items) (fits_lead : FitsLead t lead_in leads)
    (fits : FitsCurrent t leads current) where
  pub dead_step : (column : ℕ) → column < length (units_of t.classes) → current.led_in ≡ None
      → targets_in current.steps column ≡ [] → matches_in current.steps (group_in t column) ≡ []
      → is_dead_state (step t.nfa t.kind (state_in t current) (unit_in t column)) ≡ true
  dead_step column h none targets matches =
      let facts = facts_with (group_in t column) in
      let made_of = λ (a m : List ℕ). made t.nfa (a ++ []) facts (patterns_of t.nfa.rows (m ++ [])) in
      ap is_dead_state (column_made groups fits_lead fits column h None (inl none) ∙ ap₂ made_of targets matches)
      ∙ made_none t.nfa facts

  -- a column by which no rows of its own go on leads where the lead-in's rows lead
  pub alone : {column : ℕ} → column < length (units_of t.classes) → targets_in current.steps column ≡ []
      → matches_in current.steps (group_in t column) ≡ []
      → MatchOption current.led_in
      (is_dead_state (step t.nfa t.kind (state_in t current) (unit_in t column)) ≡ true)
      (λ context. (context < 32)
      × (step t.nfa t.kind (state_in t current) (unit_in t column) ≡ lone_state t.nfa t.kind t.classes context column))
  alone {column} h targets matches = by current.led_in refl
    where
      by : (o : Option ℕ) → current.led_in ≡ o
          → MatchOption o (is_dead_state (step t.nfa t.kind (state_in t current) (unit_in t column)) ≡ true)
          (λ context. (context < 32)
          × (step t.nfa t.kind (state_in t current) (unit_in t column)
          ≡ lone_state t.nfa t.kind t.classes context column))
      by None none = dead_step column h none targets matches
      by (Some context) some =
          let lone : IsLone current column (group_in t column) context = record {
            led_in = some;
            targets = targets;
            matches = matches;
          } in
          let small = lone_small groups fits_lead fits lone in
          (small, lone_step fits_lead fits h small lone)
