use Rattle.rx_spec.proofs.Prelude.{ap, arith, common_steps, reads_nothing}
use Rattle.rx_expr.proofs.Edges.{nothing-concat, nothing-alternate, nothing-repeat}
use Rattle.rx_expr.proofs.thompson.edge.+reads_nothing.Goals as goal

pub returns-in-Empty : goal.returns-in-Empty
unfolding reads_nothing
returns-in-Empty t c = ap reads_nothing c.in-Empty.ensures.whole

pub returns-in-Look : goal.returns-in-Look
unfolding reads_nothing
returns-in-Look t c = ap reads_nothing c.in-Look.ensures.whole

pub returns-in-Class : goal.returns-in-Class
unfolding reads_nothing
returns-in-Class t c = ap reads_nothing c.in-Class.ensures.whole

pub returns-then-reads_nothing : goal.returns-then-reads_nothing
returns-then-reads_nothing t c =
    let both = nothing-concat c.in-Concat.ensures.whole in
    grind (arith, common_steps)

pub returns-else-reads_nothing : goal.returns-else-reads_nothing
returns-else-reads_nothing t c =
    let both = nothing-concat c.in-Concat.ensures.whole in grind (arith, common_steps)

pub returns-then-reads_nothing-2 : goal.returns-then-reads_nothing-2
returns-then-reads_nothing-2 t c =
    let both = nothing-alternate c.in-Alternate.ensures.whole in
    grind (arith, common_steps)

pub returns-else-reads_nothing-2 : goal.returns-else-reads_nothing-2
returns-else-reads_nothing-2 t c =
    let both = nothing-alternate c.in-Alternate.ensures.whole in grind (arith, common_steps)

pub returns-then-is_zero : goal.returns-then-is_zero
returns-then-is_zero t c =
    let either = nothing-repeat c.in-Repeat.max c.in-Repeat.ensures.whole in grind (arith, common_steps)

pub returns-else-is_zero : goal.returns-else-is_zero
returns-else-is_zero t c =
    let either = nothing-repeat c.in-Repeat.max c.in-Repeat.ensures.whole in grind (arith, common_steps)
