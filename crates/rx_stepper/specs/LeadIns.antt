-- The lead-in of the code is that of an NFA.
use Rattle.std.specs.Prelude.{◌≡◌, ◌<◌, All}
use Rattle.std.specs.List.{list_any}
use Rattle.rx_spec.specs.Causes.{id_count}
use Rattle.rx_spec.specs.Nfas.{Nfa}
use Rattle.rx_spec.specs.States.{is_look_row, row_at}
use Rattle.rx_stepper.specs.Leads.{lead_of}
use Rattle.rx_stepper.specs.declared.lead_in.LeadIn.{LeadIn}

pub record IsLeadIn (nfa : Nfa) (l : LeadIn) : Type 0 where
  pub start : l.start ≡ nfa.start_unanchored
  pub rows : l.rows.items ≡ lead_of nfa
  pub asks : l.asks ≡ list_any (λ q. is_look_row (row_at nfa.rows q)) l.rows.items
  pub ids : All (λ q. q < id_count) l.rows.items
