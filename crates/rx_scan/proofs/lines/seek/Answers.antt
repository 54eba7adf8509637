use Rattle.rx_spec.proofs.Prelude.{common_steps, arith}
use Rattle.rx_scan.proofs.LineCounts.{feeds_to, start_to, feeds_before, start_before_feed, feeds_past, start_past}
use Rattle.rx_scan.proofs.LineCounts.{feeds_few}
use Rattle.rx_scan.proofs.lines.seek.Goals as goal

pub feeds-init : goal.feeds-init
feeds-init c = grind (arith, common_steps)

pub returns-in-None-clause-lines : goal.returns-in-None-clause-lines
returns-in-None-clause-lines c = grind (arith, common_steps, feeds_to, start_to)

pub returns-then-feed-to-clause-lines : goal.returns-then-feed-to-clause-lines
returns-then-feed-to-clause-lines c = grind (arith, common_steps, feeds_before, start_before_feed)

pub overflow_add-lines : goal.overflow_add-lines
overflow_add-lines c = grind (arith, common_steps, feeds_few)

pub feeds-preserved : goal.feeds-preserved
feeds-preserved c = grind (arith, common_steps, feeds_past, start_past)
