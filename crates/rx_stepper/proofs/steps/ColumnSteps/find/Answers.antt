use Rattle.rx_spec.proofs.Prelude.{common_steps, vec_capacity, slice_index, ℕ, ◌+◌, ◌++◌, List, length, map, refl, ap}
use Rattle.rx_spec.proofs.Prelude.{sym, ◌∙◌, subst, arith, flat_map, Tested, cut, holds_before, row_at, target}
use Rattle.rx_stepper.proofs.Prelude.{AreGroups, NFA, Reads, ColumnSteps, facts_with, going_by, meaning, rows_in}
use Rattle.rx_stepper.proofs.Decisions.{closed_plain}
use Rattle.rx_stepper.proofs.KeyLaws.{closed_few, rows_tested}
use Rattle.rx_stepper.proofs.Results.{on_ok-both}
use Rattle.rx_stepper.proofs.StepLaws.{GroupDone, done_passed, done_more, all_done, few_told, group_goes, plain_steps}
use Rattle.rx_stepper.proofs.GroupLoop.{Finding, Between, stand}
use Rattle.rx_stepper.proofs.steps.ColumnSteps.find.Goals as goal
use Rattle.rx_stepper.proofs.steps.ColumnSteps.find.Goals.{then-has+in_ok-add_group, else-has}

pub loop-group-init : goal.loop-group-init
loop-group-init c = grind (arith, common_steps)

pub loop-group-preserved : goal.loop-group-preserved
loop-group-preserved c =
    let f : Finding = record {
      closures = c.args.closures.now;
      columns = c.args.columns.now;
      kind = c.args.kind;
      rows = c.args.rows.now;
      last = c.args.last;
      count = length c.args.self.now.targets.items;
      room = vec_capacity c.args.reached.now;
    } in
    let i = c.loop-group.group in
    let before = c.loop-group.invariant in
    let used = c.args.columns.now.groups.used.items in
    elim c.if-has.branch [
      | then-has+in_ok-add_group w ↦
          let e = w.add_group.ensures in
          let ok = w.in_ok-add_group.ensures in
          let more : Between f (i + 1) w.add_group.new.self w.add_group.new.closures
          (vec_capacity w.add_group.new.reached) = record {
            nfa = e.nfa ∙ before.nfa;
            columns = e.columns ∙ before.columns;
            kept_room = omega arith;
            done = λ units reads groups.
                let gs = f.columns.groups.of.items in
                let columns = f.columns.reading.columns.items in
                let spans = f.columns.reading.spans.items in
                let old = sym before.nfa in
                let reads_old = subst (λ m. Reads (meaning m).rows units columns spans) old reads in
                let groups_old = subst (λ m. AreGroups (meaning m) units gs) old groups in
                let t = λ (s : ColumnSteps). map (λ v. v.items) s.targets.items in
                let l = λ (s : ColumnSteps). map (λ v. v.items) s.matches.items in
                let self = c.loop-group.self in
                let new = w.add_group.new.self in
                let state = rows_in f.rows f.last in
                let Is = λ (m : NFA). GroupDone (stand m f.kind state) units gs i (t self) (l self) (t new) (l new)
                (going_by (meaning m) f.kind f.last (facts_with i) f.rows) in
                done_more
                (subst Is before.nfa (record {
                  others = ok.others;
                  told = ok.matches;
                  few = ok.few;
                  lists = ok.targets units reads_old;
                  goes_on =
                      group_goes (stand c.loop-group.closures.nfa.now f.kind state) units gs i groups_old refl refl;
                }))
                (before.done units reads groups);
          } in
          grind (arith, common_steps)
      | else-has w ↦
          let more : Between f (i + 1) c.loop-group.self c.loop-group.closures (vec_capacity c.loop-group.reached) =
          record {
            nfa = before.nfa;
            columns = before.columns;
            kept_room = before.kept_room;
            done = λ units reads groups.
                done_passed used groups.len c.args.columns.now.groups.are_used (sym c.has.ensures ∙ w.if-has.false)
                (before.done units reads groups);
          } in
          grind (arith, common_steps)
    ]

pub returns-then-not-has_look-clause-steps : goal.returns-then-not-has_look-clause-steps
returns-then-not-has_look-clause-steps c =
    let nfa = meaning c.args.closures.now.nfa.now in
    let rows = c.args.rows.now in
    let s = stand c.args.closures.now.nfa.now c.args.kind (rows_in rows c.args.last) in
    let new = c.add_plain.new.self in
    let closed = rows_tested nfa.rows rows c.requires.closed in
    let no_look = sym c.has_look.ensures ∙ c.if-not-has_look.true in
    on_ok-both c.add_plain.result
    (λ matches targets units reads groups.
    plain_steps s units c.args.columns.now.groups.of.items c.args.columns.now.groups.used.items
    (map (λ v. v.items) new.targets.items) (map (λ v. v.items) new.matches.items) refl
    (λ unit. closed_plain nfa.rows c.args.closures.now.nfa.now.shallow (Tested (holds_before nfa unit s.state)) rows
    closed.stand closed.once no_look)
    groups.len c.args.columns.now.groups.are_used
    (omega (arith, few_told c.args.kind nfa.rows rows, closed_few closed)) matches
    (λ column h.
    targets units reads column h
    ∙ ap
    (λ (l : List ℕ). l ++ flat_map (λ q. target (slice_index units column) (row_at nfa.rows q))
    (cut c.args.kind nfa.rows rows))
    (c.clear.ensures.targets column)))
    c.add_plain.ensures.matches c.add_plain.ensures.targets

pub returns-clause-steps : goal.returns-clause-steps
returns-clause-steps c = λ units reads groups.
    all_done
    (λ column h. omega arith)
    (c.loop-group.invariant.done units reads groups)
