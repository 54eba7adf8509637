use Rattle.rx_spec.proofs.Prelude.{arith, ◌∙◌, common_steps}
use Rattle.rx_expr.proofs.Edges.{nothing-read_as, begins-empty, begins-class, begins-look, begins-concat}
use Rattle.rx_expr.proofs.Edges.{begins-concat_reverse, begins-alternate, begins-repeat_none, begins-repeat_some}
use Rattle.rx_expr.proofs.thompson.edge.+begins.Goals as goal

pub begins_with_edge-returns-in-Empty : goal.begins_with_edge-returns-in-Empty
begins_with_edge-returns-in-Empty t c = begins-empty c.args.direction c.in-Empty.ensures.whole

pub begins_with_edge-returns-in-Class : goal.begins_with_edge-returns-in-Class
begins_with_edge-returns-in-Class t c = begins-class c.args.direction c.in-Class.ensures.whole

pub begins_with_edge-returns-in-Look : goal.begins_with_edge-returns-in-Look
begins_with_edge-returns-in-Look t c = c.is_edge.ensures ∙ begins-look c.args.direction c.in-Look.ensures.whole

pub begins_with_edge-returns-in-Forward : goal.begins_with_edge-returns-in-Forward
begins_with_edge-returns-in-Forward t c = grind (arith, common_steps, begins-concat)

pub begins_with_edge-returns-in-Reverse : goal.begins_with_edge-returns-in-Reverse
begins_with_edge-returns-in-Reverse t c = grind (arith, common_steps, begins-concat_reverse)

pub begins_with_edge-returns-then-begins_with_edge : goal.begins_with_edge-returns-then-begins_with_edge
begins_with_edge-returns-then-begins_with_edge t c =
    let both = begins-alternate c.args.direction c.in-Alternate.ensures.whole in
    grind (arith, common_steps)

pub begins_with_edge-returns-else-begins_with_edge : goal.begins_with_edge-returns-else-begins_with_edge
begins_with_edge-returns-else-begins_with_edge t c =
    let both = begins-alternate c.args.direction c.in-Alternate.ensures.whole in
    grind (arith, common_steps)

pub begins_with_edge-returns-then-min-gt0 : goal.begins_with_edge-returns-then-min-gt0
begins_with_edge-returns-then-min-gt0 t c = grind (arith, common_steps, begins-repeat_some)

pub begins_with_edge-returns-else-min-gt0 : goal.begins_with_edge-returns-else-min-gt0
begins_with_edge-returns-else-min-gt0 t c = grind (arith, common_steps, begins-repeat_none)

pub either_begins-returns-then-begins_with_edge : goal.either_begins-returns-then-begins_with_edge
either_begins-returns-then-begins_with_edge t c = grind (arith, common_steps)

pub either_begins-returns-then-reads_nothing : goal.either_begins-returns-then-reads_nothing
either_begins-returns-then-reads_nothing t c = grind (arith, common_steps, nothing-read_as)

pub either_begins-returns-else-reads_nothing : goal.either_begins-returns-else-reads_nothing
either_begins-returns-else-reads_nothing t c = grind (arith, common_steps, nothing-read_as)
