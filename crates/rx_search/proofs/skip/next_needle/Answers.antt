use Rattle.rx_base.specs.Input.{query_of}
use Rattle.rx_search.proofs.Needles.{no_next, no_last, last_there}
use Rattle.rx_search.proofs.skip.next_needle.Goals as goal

pub returns-in-None : goal.returns-in-None
returns-in-None c =
    let q = query_of c.args.input.now in
    let h = rw (c.requires.haystack, c.end-end.ensures) at c.in-None.ensures in
    rw (c.in-Forward.is, c.end-end.ensures)
    (no_next c.args.needles.now q c.args.from c.requires.in_span c.requires.within h)

pub returns-in-Some-last_needle : goal.returns-in-Some-last_needle
returns-in-Some-last_needle c =
    let q = query_of c.args.input.now in
    let h = rw (c.requires.haystack, c.start-start.ensures) at c.in-Some-last_needle.ensures in
    rw (c.in-Reverse.is, c.start-start.ensures)
    (last_there c.args.needles.now q c.args.from c.requires.in_span c.requires.within c.in-Some-last_needle.at h)

pub returns-in-None-last_needle : goal.returns-in-None-last_needle
returns-in-None-last_needle c =
    let q = query_of c.args.input.now in
    let h = rw (c.requires.haystack, c.start-start.ensures) at c.in-None-last_needle.ensures in
    rw (c.in-Reverse.is, c.start-start.ensures)
    (no_last c.args.needles.now q c.args.from c.requires.in_span c.requires.within h)
