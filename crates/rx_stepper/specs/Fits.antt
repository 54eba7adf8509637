-- The parts of a stepper fit each other: the columns are those of its NFA and classes, and the current state and the
-- lead-in have what the columns need.
use Rattle.std.specs.Prelude.{ℕ, ◌≡◌, true, Some, None, if◌then◌else◌, List, length, slice_get, slice_index, map}
use Rattle.rx_spec.specs.Nfas.{Nfa}
use Rattle.rx_spec.specs.declared.MatchKind.{MatchKind}
use Rattle.rx_base.specs.ByteClasses.{alphabet_len}
use Rattle.rx_base.specs.FactBits.{bits_of, facts_with}
use Rattle.rx_stepper.specs.Columns.{AreGroups, Reads}
use Rattle.rx_stepper.specs.Keys.{led_of, own_of}
use Rattle.rx_stepper.specs.LeadIns.{IsLeadIn}
use Rattle.rx_stepper.specs.Steps.{Stand, AreSteps, rows_in}
use Rattle.rx_stepper.specs.Units.{units_of}
use Rattle.rx_stepper.specs.declared.columns.Columns.{Columns}
use Rattle.rx_stepper.specs.declared.current.Current.{Current}
use Rattle.rx_stepper.specs.declared.lead_in.LeadIn.{LeadIn}
use Rattle.rx_stepper.specs.declared.lead_steps.LeadSteps.{LeadSteps}
use Rattle.rx_stepper.specs.declared.steps.ColumnSteps.{ColumnSteps}

pub record Fits (nfa : Nfa) (classes : List ℕ) (columns : Columns) : Type 0 where
  pub counted : length (units_of classes) ≡ alphabet_len classes
  pub count : columns.reading.count ≡ length (units_of classes)
  pub reads : Reads nfa.rows (units_of classes) columns.reading.columns.items columns.reading.spans.items
  pub groups : AreGroups nfa (units_of classes) columns.groups.of.items

-- what is stepped: rows of an NFA by the columns of classes
pub record Table : Type 0 where
  pub nfa : Nfa
  pub kind : MatchKind
  pub classes : List ℕ
  pub columns : Columns

abbrev pub table_of : Nfa → MatchKind → List ℕ → Columns → Table
table_of nfa kind classes columns = record { nfa = nfa; kind = kind; classes = classes; columns = columns }

-- the steps are those of some rows, where this is known of the unit read last
abbrev pub AreStepsOf : Table → List ℕ → ℕ → ColumnSteps → Type 0
AreStepsOf t rows context steps =
    let s : Stand = record { nfa = t.nfa; kind = t.kind; state = rows_in rows (facts_with context) } in
    AreSteps s (units_of t.classes) t.columns.groups.of.items
    (map (λ v. v.items) steps.targets.items) (map (λ v. v.items) steps.matches.items)

pub record FitsLead (t : Table) (lead_in : LeadIn) (leads : List LeadSteps) : Type 0 where
  pub is : IsLeadIn t.nfa lead_in
  pub len : length leads ≡ 32
  pub columns : (context : ℕ) (l : LeadSteps) → slice_get leads context ≡ Some l
      → length l.steps.targets.items ≡ length (units_of t.classes)
  pub steps : (context : ℕ) (l : LeadSteps) → slice_get leads context ≡ Some l → l.are_found ≡ true
      → AreStepsOf t lead_in.rows.items context l.steps

pub record FitsCurrent (t : Table) (leads : List LeadSteps) (current : Current) : Type 0 where
  pub columns : length current.steps.targets.items ≡ length (units_of t.classes)
  pub steps : AreStepsOf t (own_of current.key.items) (slice_index current.key.items 0) current.steps
  pub led_in : current.led_in
      ≡ (if led_of current.key.items then Some (bits_of (facts_with (slice_index current.key.items 0))) else None)
  pub found : (context : ℕ) (l : LeadSteps) → current.led_in ≡ Some context → slice_get leads context ≡ Some l
      → l.are_found ≡ true
