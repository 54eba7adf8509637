use Rattle.rx_spec.proofs.Prelude.{arith, ◌≡◌, Option, true, false, ℕ, refl, ap, sym, subst, common_steps, when_false}
use Rattle.rx_spec.proofs.Prelude.{IfSome, IsReached, dead, is_dead_state, start_node, start_state}
use Rattle.rx_determinize.proofs.Prelude.{CanAdd, FindsRow, IsKeyOf, Stepping, keys_in, states_of, stepping_of, work_of}
use Rattle.rx_determinize.proofs.NextLaws.{dead_id, dead_is_row, found_added, found_before, key_may, may_by, over_by}
use Rattle.rx_determinize.proofs.NextLaws.{working_by}
use Rattle.rx_determinize.proofs.StartLaws.{zero_row}
use Rattle.rx_determinize.proofs.construction.Construction.start_row.Goals.{After-deref}
use Rattle.rx_determinize.proofs.construction.Construction.start_row.Goals as goal

-- no state starts there
pub returns-in_default-clause-found : goal.returns-in_default-clause-found
returns-in_default-clause-found c =
    let w = work_of c.args.self.now in
    let l = c.args.dfa.now in
    let serves = c.requires.serves in
    let found : FindsRow w l dead w l 0 = found_before refl serves (zero_row l) (dead_id serves.rows) in
    grind (arith, common_steps)

-- the key that the stepper gave is that of the state in which searches start, which can be added
key_is : (c : After-deref) → IsKeyOf (stepping_of c.args.self.now.stepper) c.deref.result.now
    (start_state (stepping_of c.args.self.now.stepper).nfa c.in-Some.row c.args.start)
key_is c = grind (arith, common_steps)

can_add : (c : After-deref) → CanAdd (keys_in (work_of c.args.self.now) c.args.dfa.now) c.args.self.now.settled.now
    c.args.self.now.states c.args.dfa.now c.deref.result.now
can_add c =
    let s = stepping_of c.args.self.now.stepper in
    let b = (keys_in (work_of c.args.self.now) c.args.dfa.now).build in
    let state = start_state s.nfa c.in-Some.row c.args.start in
    let reached : is_dead_state state ≡ false → IsReached b state =
    subst (λ (row : Option ℕ). IfSome row (λ q. is_dead_state (start_state s.nfa q c.args.start) ≡ false
    → IsReached b (start_state s.nfa q c.args.start))) c.in-Some.is c.requires.reached in
    key_may c.requires.serves (key_is c) (reached (key_is c).alive)

pub add-requires-clause-can : goal.add-requires-clause-can
add-requires-clause-can c = may_by c.args.dfa.now c.start.ensures.kept c.args.self.now.settled.now (can_add c)

pub returns-then-branch-clause-found : goal.returns-then-branch-clause-found
returns-then-branch-clause-found c =
    let w = work_of c.args.self.now in
    let same = ap (λ (s : Stepping). record w { stepping = s; met = c.add.new.self }) c.start.ensures.kept in
    let found = found_added c.add.result c.add.new.dfa same c.requires.serves
    (key_is (goal.at.returns-then-branch-clause-found c).After-deref) c.add.ensures.ok c.add.ensures.is_row
    c.add.ensures.rows (working_by c.args.dfa.now c.start.ensures.kept c.args.self.now.settled.now c.add.result
    c.add.new.self c.add.new.dfa c.add.ensures.working) in
    let v = record w { stepping = stepping_of c.start.new.self; met = c.add.new.self } in
    grind (arith, common_steps)

pub returns-then-branch-clause-err : goal.returns-then-branch-clause-err
returns-then-branch-clause-err c =
    over_by c.args.dfa.now c.start.ensures.kept c.args.self.now.settled.now c.add.result c.add.ensures.err

pub returns-else-branch-clause-found : goal.returns-else-branch-clause-found
returns-else-branch-clause-found c =
    let w = work_of c.args.self.now in
    let s = w.stepping in
    let l = c.args.dfa.now in
    let serves = c.requires.serves in
    let state = start_state s.nfa c.in-Some.row c.args.start in
    let dead =
    when_false (IsKeyOf s c.start.new.key.items state) (is_dead_state state ≡ true) c.if-branch.false
    c.in_ok-start.ensures.key in
    let found = found_before (ap (λ (t : Stepping). record w { stepping = t }) c.start.ensures.kept) serves
    (dead_is_row (states_of (keys_in w l) w.met) state l dead) (dead_id serves.rows) in
    let v = record w { stepping = stepping_of c.start.new.self } in
    subst (λ (row : Option ℕ). FindsRow w l (start_node s.nfa row c.args.start) v l 0) (sym c.in-Some.is) found
