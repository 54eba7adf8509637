use Rattle.rx_spec.proofs.Prelude.{rules}
use Rattle.rx_lemmas.proofs.Tables.{AreSame-refl, AreSame-sym, AreSame-trans, table_same, sound_same, half_same}
use Rattle.rx_lemmas.proofs.Tables.{overlapping_same}
use Rattle.rx_laws.proofs.laws.same_tables.Goals as goal

pub returns : goal.returns
returns c =
    search (rules, AreSame-refl, AreSame-sym, AreSame-trans, table_same, sound_same, half_same, overlapping_same)
