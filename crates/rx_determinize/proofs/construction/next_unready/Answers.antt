use Rattle.rx_determinize.proofs.construction.next_unready.Goals as goal

pub returns-then-skips-clause-ready : goal.returns-then-skips-clause-ready
returns-then-skips-clause-ready c = λ column from below. (c.if-skips.true, c.next_own.ensures.alone column from below)
