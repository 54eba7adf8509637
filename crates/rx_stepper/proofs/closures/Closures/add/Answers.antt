use Rattle.rx_spec.proofs.Prelude.{common_steps, ap, ◌∙◌, ◌++◌, arith, flat_map, closure, fresh}
use Rattle.rx_stepper.proofs.Prelude.{NFA, meaning, passing_of}
use Rattle.rx_stepper.proofs.StampedSearch.{itself_new, itself_again, next_given, all_given, count_new, count_old}
use Rattle.rx_stepper.proofs.closures.Closures.add.Goals as goal
use Rattle.rx_stepper.proofs.closures.Closures.add.Goals.{then-stops+then-is_first, then-stops+else-is_first}
use Rattle.rx_stepper.proofs.closures.Closures.add.Goals.{else-stops}

pub each-init : goal.each-init
each-init c = grind (arith, common_steps)

pub each-preserved : goal.each-preserved
each-preserved c =
    let left = c.each.invariant in
    let self = c.each.self in
    let rows = (meaning self.nfa.now).rows in
    let pass = passing_of c.args.passing.now in
    let found = c.each.found.items in
    let from = c.args.from.now in
    let i = c.each.row-index in
    let q = c.row-item.result in
    elim c.if-stops.branch [
      | then-stops+then-is_first w ↦
          let first = w.is_first.ensures in
          let count = count_new _ w.is_first.result first.count w.if-is_first.true in
          let done =
          itself_new rows pass q (c.stops.ensures.itself w.if-stops.true) c.stops.ensures.bound
          first.new w.if-is_first.true first.only count w.put.ensures.items left.searched in
          rw (w.self-is, w.found-is) (record {
            searched = done.1;
            left = next_given rows pass found from i q (omega arith) c.row-item.is done.0 left.left;
            empty = left.empty;
            found_room = omega arith;
            found_grown = omega arith;
            nfa = left.nfa;
          })
      | then-stops+else-is_first w ↦
          let first = w.is_first.ensures in
          let count = count_old _ w.is_first.result first.count w.if-is_first.false in
          let done =
          itself_again rows pass q (c.stops.ensures.itself w.if-stops.true) first.new w.if-is_first.false first.only
          count left.searched in
          rw (w.self-is, w.found-is) (record {
            searched = done.1;
            left = next_given rows pass found from i q (omega arith) c.row-item.is done.0 left.left;
            empty = left.empty;
            found_room = left.found_room;
            found_grown = left.found_grown;
            nfa = left.nfa;
          })
      | else-stops w ↦
          let done = w.search.ensures in
          rw (w.self-is, w.found-is, done.nfa) (record {
            searched = done.searched;
            left = next_given rows pass found from i q (omega arith) c.row-item.is done.rows left.left;
            empty = done.waiting;
            found_room = omega arith;
            found_grown = omega arith;
            nfa = left.nfa;
          })
    ]

pub returns-clause-rows : goal.returns-clause-rows
returns-clause-rows c =
    let left = c.each.invariant in
    let pass = passing_of c.args.passing.now in
    let before = c.args.found.now.items in
    let reached = λ (n : NFA). flat_map (closure (meaning n).rows pass) c.args.from.now in
    all_given (meaning c.each.self.nfa.now).rows pass c.each.found.items c.args.from.now c.each.row-index (omega arith)
    left.left
    ∙ ap (λ (n : NFA). before ++ fresh before (reached n)) left.nfa

pub returns-clause-searched : goal.returns-clause-searched
returns-clause-searched c = grind (arith, common_steps)
