-- The settings of a builder.
use Rattle.rx_expr.specs.Compiler.{asked_by}
use Rattle.rx_expr.specs.Settings as thompson
use Rattle.rx_build.specs.Settings as settings
use Rattle.rx_build.specs.Settings.{asked}
use Rattle.rx_build.specs.declared.dense.builder.Builder.{Builder}

-- those of the table and those of the NFA
pub record Both : Type 0 where
  pub dense : settings.Asked
  pub thompson : thompson.Asked

abbrev pub both_of : Builder → Both
both_of b = record { dense = asked b.config; thompson = asked_by b.compiler }

abbrev pub none_asked : Both
none_asked = record { dense = settings.nothing_asked; thompson = thompson.nothing_asked }
