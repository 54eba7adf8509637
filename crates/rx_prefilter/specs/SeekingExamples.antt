-- Worked examples: what is told of the literal ab in a text that ends before the span does.
use Rattle.std.specs.Prelude.{None, Some, codes}
use Rattle.rx_prefilter.specs.LiteralExamples.{literal, text}
use Rattle.rx_prefilter.specs.Seeking.{IsSought}

abbrev pub AtTheEnd : Type 0
AtTheEnd = IsSought text literal 2 9 5 (Some 3)

-- the last byte of the second place is missing
abbrev pub CutByEnd : Type 0
CutByEnd = IsSought (codes "xaba") literal 2 9 4 None
