use Rattle.rx_order.proofs.KeptLists.{lists_few, lists_kept}
use Rattle.rx_order.proofs.Sorted.{have_matches}
use Rattle.rx_order.proofs.accelerate_rows.move_patterns.Goals as goal

pub keeps_matches-requires : goal.keeps_matches-requires
keeps_matches-requires c = (have_matches c.requires.sorted).to

pub patterns_of_rows-requires-clause-places : goal.patterns_of_rows-requires-clause-places
patterns_of_rows-requires-clause-places c = rw c.deref.ensures.value (have_matches c.requires.sorted)

pub returns-then-keeps_matches-clause-ok : goal.returns-then-keeps_matches-clause-ok
returns-then-keeps_matches-clause-ok c =
    let kept = c.keeps_matches.ensures.0 c.if-keeps_matches.true in
    lists_kept c.requires.sorted kept c.requires.in_order c.requires.joined

pub returns-then-keeps_matches-clause-fits : goal.returns-then-keeps_matches-clause-fits
returns-then-keeps_matches-clause-fits c =
    lists_few c.requires.sorted (c.keeps_matches.ensures.0 c.if-keeps_matches.true) c.requires.in_order
