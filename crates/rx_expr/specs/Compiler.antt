-- The settings of a compiler.
use Rattle.rx_expr.specs.Settings.{Asked, asked}
use Rattle.rx_expr.specs.declared.thompson.compiler.Compiler.{Compiler}

abbrev pub asked_by : Compiler → Asked
asked_by c = asked c.config
