use Rattle.rx_spec.proofs.Prelude.{rules}
use Rattle.rx_lemmas.proofs.Classes.{class_leads, column_leads}
use Rattle.rx_laws.proofs.laws.classes_lead.Goals as goal

pub returns : goal.returns
returns c = search (rules, class_leads, column_leads)
