use Rattle.rx_spec.proofs.Prelude.{rules}
use Rattle.rx_lemmas.proofs.Ids.{row_of-id_of, id_of-row_of, dense_are_ids, id_of-dense}
use Rattle.rx_laws.proofs.laws.ids.Goals as goal

pub returns : goal.returns
returns c = search (rules, row_of-id_of, id_of-row_of, dense_are_ids, id_of-dense)
