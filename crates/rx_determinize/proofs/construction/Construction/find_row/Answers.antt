use Rattle.rx_spec.proofs.Prelude.{arith, ◌≡◌, ℕ, true, Option, refl, ap, subst, common_steps, IfSome, MatchBool}
use Rattle.rx_spec.proofs.Prelude.{is_dead_state}
use Rattle.rx_determinize.proofs.Prelude.{CanAdd, IsKeyOf, IsStepped, Stepping, keys_in, states_of, stepped}
use Rattle.rx_determinize.proofs.Prelude.{stepping_of, work_of}
use Rattle.rx_determinize.proofs.NextLaws.{dead_id, dead_is_row, found_added, found_before, key_may, may_by}
use Rattle.rx_determinize.proofs.NextLaws.{stepped_alike, stepped_reached, working_by}
use Rattle.rx_determinize.proofs.SteppingLaws.{current_reached}
use Rattle.rx_determinize.proofs.construction.Construction.find_row.Goals.{After-deref}
use Rattle.rx_determinize.proofs.construction.Construction.find_row.Goals as goal

pub returns-then-are_alike-clause-found : goal.returns-then-are_alike-clause-found
returns-then-are_alike-clause-found c =
    let w = work_of c.args.self.now in
    let r = c.requires in
    let last : IsStepped w c.args.dfa.now c.in-Some.other c.args.last.id =
    subst (λ (o : Option ℕ). IfSome o (λ other. IsStepped w c.args.dfa.now other c.args.last.id)) c.in-Some.is
    r.stepping.stepped_last in
    found_before refl r.stepping.entering.serves (stepped_alike c.args.at.column c.in-Some.other
    (c.are_alike.ensures c.if-are_alike.true) last) last.is_id

-- the key that the stepper gave is that of the state to which the column leads, which can be added
key_is : (c : After-deref) → IsKeyOf (stepping_of c.args.self.now.stepper) c.deref.result.now
    (stepped (stepping_of c.args.self.now.stepper) c.args.at.column)
key_is c = grind (arith, common_steps)

can_add : (c : After-deref) → CanAdd (keys_in (work_of c.args.self.now) c.args.dfa.now) c.args.self.now.settled.now
    c.args.self.now.states c.args.dfa.now c.deref.result.now
can_add c =
    let r = c.requires in
    let serves = r.stepping.entering.serves in
    key_may serves (key_is c)
    (stepped_reached (stepping_of c.args.self.now.stepper) c.args.dfa.now serves.rows serves.classes
    (current_reached r.stepping) c.args.at.column r.column r.goes_on (key_is c))

pub add-requires-clause-can : goal.add-requires-clause-can
add-requires-clause-can c = may_by c.args.dfa.now c.next.ensures.kept c.args.self.now.settled.now (can_add c)

pub returns-then-branch-clause-found : goal.returns-then-branch-clause-found
returns-then-branch-clause-found c =
    let w = work_of c.args.self.now in
    let same = ap (λ (s : Stepping). record w { stepping = s; met = c.add.new.self }) c.next.ensures.kept in
    found_added c.add.result c.add.new.dfa same c.requires.stepping.entering.serves
    (key_is (goal.at.returns-then-branch-clause-found c).After-deref) c.add.ensures.ok c.add.ensures.is_row
    c.add.ensures.rows (working_by c.args.dfa.now c.next.ensures.kept c.args.self.now.settled.now c.add.result
    c.add.new.self c.add.new.dfa c.add.ensures.working)

pub returns-then-branch-clause-err : goal.returns-then-branch-clause-err
returns-then-branch-clause-err c = grind (arith, common_steps)

pub returns-else-branch-clause-found : goal.returns-else-branch-clause-found
returns-else-branch-clause-found c =
    let w = work_of c.args.self.now in
    let s = w.stepping in
    let l = c.args.dfa.now in
    let serves = c.requires.stepping.entering.serves in
    let state = stepped s c.args.at.column in
    let dead =
    subst (λ b. MatchBool b (IsKeyOf s c.next.new.key.items state) (is_dead_state state ≡ true)) c.if-branch.false
    c.in_ok-next.ensures.key in
    found_before (ap (λ (t : Stepping). record w { stepping = t }) c.next.ensures.kept) serves
    (dead_is_row (states_of (keys_in w l) w.met) state l dead) (dead_id serves.rows)
