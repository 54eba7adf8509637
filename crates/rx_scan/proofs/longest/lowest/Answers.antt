use Rattle.rx_spec.proofs.Prelude.{common_steps, ◌<◌, ◌+◌, take, sym, ◌∙◌, subst, arith, length, row_of}
use Rattle.rx_search.specs.Labels.{patterns_of}
use Rattle.rx_search.proofs.Cursors.{held_by, held_row}
use Rattle.rx_search.proofs.Halves.{some_pattern}
use Rattle.rx_scan.specs.Walks.{IsLowest}
use Rattle.rx_scan.proofs.LowestPatterns.{lowest_first, lowest_lower, lowest_same}
use Rattle.rx_scan.proofs.longest.lowest.Goals as goal
use Rattle.rx_scan.proofs.longest.lowest.Goals.{then-as_usize, else-as_usize}

pub match_pattern-lowest-requires-clause-within : goal.match_pattern-lowest-requires-clause-within
match_pattern-lowest-requires-clause-within g c = grind (arith, common_steps, some_pattern)

pub patterns-init : goal.patterns-init
patterns-init g c =
    let met = g.met.A.Automaton in
    let ks = patterns_of (g.A.Automaton.table c.args.table.now)
    (row_of (g.A.Automaton.ids c.args.table.now) c.args.row) in
    let held = held_by met.sound met.are_ids c.args.table.now c.requires.sound in
    let some = some_pattern (held_row held c.args.row c.requires.is_id) c.requires.is_match in
    grind (arith, common_steps, lowest_first)

pub patterns-preserved : goal.patterns-preserved
patterns-preserved g c =
    let ks = patterns_of (g.A.Automaton.table c.args.table.now)
    (row_of (g.A.Automaton.ids c.args.table.now) c.args.row) in
    let i = c.patterns.i in
    let inv = c.patterns.invariant in
    let within : i < length ks = omega arith in
    record {
      some = omega arith;
      within = omega arith;
      lowest = elim c.if-as_usize.branch [
        | then-as_usize w ↦
            subst (IsLowest (take (i + 1) ks)) (sym (w.lowest-is ∙ c.match_pattern-pattern.ensures))
            (lowest_lower ks i c.patterns.lowest within inv.lowest
            (omega (arith, w.if-as_usize.true)))
        | else-as_usize w ↦
            subst (IsLowest (take (i + 1) ks)) (sym w.lowest-is)
            (lowest_same ks i c.patterns.lowest within inv.lowest
            (omega (arith, w.if-as_usize.false)))
      ];
    }

pub returns : goal.returns
returns g c = grind (arith, common_steps)
