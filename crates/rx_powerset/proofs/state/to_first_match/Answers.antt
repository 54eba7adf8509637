use Rattle.rx_spec.proofs.Prelude.{common_steps, arith}
use Rattle.rx_lemmas.proofs.Uncut.{uncut_more, cut_here, cut_nowhere}
use Rattle.rx_powerset.proofs.state.to_first_match.Goals as goal

pub returns-then-is_match : goal.returns-then-is_match
returns-then-is_match c = grind (arith, common_steps, cut_here)

pub loop-i-preserved : goal.loop-i-preserved
loop-i-preserved c = grind (arith, common_steps, uncut_more)

pub returns : goal.returns
returns c = cut_nowhere (omega arith) c.loop-i.invariant
