-- The tables of a plan in memory.
use Rattle.std.specs.Prelude.{List}
use Rattle.rx_spec.specs.Expressions.{Expression}
use Rattle.rx_plan.specs.Plans.{Plan}
use Rattle.rx_regex.specs.Forms.{pair_of}
use Rattle.rx_regex.specs.Pairs.{AreTables}
use Rattle.rx_regex.specs.declared.tables.Built.{Built}

-- they are those of a plan and of these expressions
abbrev pub IsOf : Plan → List Expression → Built → Type 0
IsOf p es built = AreTables p es (pair_of built.tables)
