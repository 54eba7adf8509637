use Rattle.rx_spec.proofs.Prelude.{refl}
use Rattle.rx_laws.proofs.Computing.{computing}
use Rattle.rx_laws.proofs.Everywhere.{everywhere_is_table, everywhere_is_sound, everywhere_gives}
use Rattle.rx_laws.proofs.examples.tables.Goals as goal

pub returns : goal.returns
unfolding computing
returns c = record {
  is_table = everywhere_is_table;
  is_sound = everywhere_is_sound;
  gives = everywhere_gives;
  reads = (refl, refl);
}
