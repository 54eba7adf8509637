-- Which expressions can match at the text's edge alone, by their form: an unanchored search of them begins
-- there too, and so needs no lead-in.
use Rattle.std.specs.Prelude.{zero, suc, Bool, true, false, ◌&&◌, ◌||◌, ◌==◌, Some, None}
use Rattle.rx_spec.specs.Expressions.{Expression}
use Rattle.rx_spec.specs.declared.Direction.{Direction}
use Rattle.rx_spec.specs.declared.Look.{Look}

-- whether an expression reads no byte
unfoldable pub reads_nothing : Expression → Bool
reads_nothing Expression.Empty = true
reads_nothing (Expression.Class set) = false
reads_nothing (Expression.Look look) = true
reads_nothing (Expression.Concat a b) = reads_nothing a && reads_nothing b
reads_nothing (Expression.Alternate a b) = reads_nothing a && reads_nothing b
reads_nothing (Expression.Repeat least None greedy body) = reads_nothing body
reads_nothing (Expression.Repeat least (Some most) greedy body) = (most == 0) || reads_nothing body

-- the text's edge, where reading begins
abbrev pub is_edge : Direction → Look → Bool
is_edge Direction.Forward Look.Start = true
is_edge Direction.Reverse Look.End = true
is_edge _ _ = false

-- whether an expression, in the order of reading, must begin with the edge
unfoldable pub begins_with_edge : Direction → Expression → Bool
begins_with_edge direction Expression.Empty = false
begins_with_edge direction (Expression.Class set) = false
begins_with_edge direction (Expression.Look look) = is_edge direction look
begins_with_edge direction (Expression.Concat a b) =
    begins_with_edge direction a || (reads_nothing a && begins_with_edge direction b)
begins_with_edge direction (Expression.Alternate a b) = begins_with_edge direction a && begins_with_edge direction b
begins_with_edge direction (Expression.Repeat zero most greedy body) = false
begins_with_edge direction (Expression.Repeat (suc n) most greedy body) = begins_with_edge direction body
