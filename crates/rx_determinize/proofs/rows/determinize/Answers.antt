use Rattle.rx_spec.proofs.Prelude.{common_steps, ◌≡◌, ◌≤◌, Bool, true, All, ap, ◌∙◌, subst, sym, arith, All-weaker}
use Rattle.rx_spec.proofs.Prelude.{err_from_is_err_and, max_id, refl, MatchBool, IsSupported, IsUnsupported}
use Rattle.rx_determinize.proofs.Prelude.{AreUnits, Continues, HasOneKeyEach, IsBegunWith, SpellStates, Stepping}
use Rattle.rx_determinize.proofs.Prelude.{build_in, label_of, meaning, stepping_of, work_of}
use Rattle.rx_determinize.proofs.AddingLaws.{few_keys}
use Rattle.rx_determinize.proofs.BuiltLaws.{IsBuilt}
use Rattle.rx_determinize.proofs.ContinuesLaws.{continues_twice, refused_later}
use Rattle.rx_determinize.proofs.LimitLaws.{Begins, begun_entering, built_of, fits, has_entries, not_unsupported}
use Rattle.rx_determinize.proofs.LimitLaws.{refused, states_in}
use Rattle.rx_determinize.proofs.rows.determinize.Goals.{In_ok-construction, In_ok-explore}
use Rattle.rx_determinize.proofs.rows.determinize.Goals as goal

-- ---- the NFA is supported, and the table is begun for the construction

supported : (c : In_ok-construction) → IsSupported (build_in (meaning c.args.nfa.now) c.args.settled.now c.args.dfa.now)
supported c =
    let b = build_in (meaning c.args.nfa.now) c.args.settled.now c.args.dfa.now in
    subst (λ answer. MatchBool answer (IsUnsupported b) (IsSupported b)) c.if-is_unsupported.false
    (c.is_unsupported.ensures b refl refl)

begins : (c : In_ok-construction) (byte_classes : Bool)
    → IsBegunWith (meaning c.args.nfa.now) c.args.settled.now byte_classes c.args.dfa.now
    → Begins (work_of c.in_ok-construction.construction) (meaning c.args.nfa.now) c.args.settled.now byte_classes
    c.args.dfa.now
begins c byte_classes begun = grind (arith, common_steps)

pub set_starts-requires-clause-entering : goal.set_starts-requires-clause-entering
set_starts-requires-clause-entering c =
    let prior = (goal.at.set_starts-requires-clause-entering c).In_ok-construction in
    let made = c.in_ok-construction in
    let same = made.ensures.stepping in
    begun_entering (begins prior c.requires.begun.0 c.requires.begun.1) made.ensures.states
    c.byte_classes.ensures.are_classes
    (subst (AreUnits made.construction.units.items) c.byte_classes.ensures.value made.ensures.units)
    (ap (λ (s : Stepping). s.classes) same ∙ c.in_ok-stepper.ensures.classes ∙ c.byte_classes.ensures.value)
    (subst HasOneKeyEach (sym same) c.in_ok-stepper.ensures.one_key)
    (subst SpellStates (sym same) c.in_ok-stepper.ensures.spells) c.args.nfa.now.patterns

pub set_starts-requires-clause-nfa : goal.set_starts-requires-clause-nfa
set_starts-requires-clause-nfa c = grind (arith, common_steps)

pub set_starts-requires-clause-entries : goal.set_starts-requires-clause-entries
set_starts-requires-clause-entries c =
    let prior = (goal.at.set_starts-requires-clause-entries c).In_ok-construction in
    has_entries (begins prior c.requires.begun.0 c.requires.begun.1)

pub returns-in_err-set_starts-clause-err : goal.returns-in_err-set_starts-clause-err
returns-in_err-set_starts-clause-err c =
    let p = err_from_is_err_and c.from_residual-in_err-set_starts.result c.from_residual-in_err-set_starts.ensures.1 in
    let prior = (goal.at.returns-in_err-set_starts-clause-err c).In_ok-construction in
    rw (p.1, p.2)
    (λ byte_classes begun.
    refused (begins prior byte_classes begun) c.in_err-set_starts.field-0.0.kind (not_unsupported (supported prior))
    c.in_err-set_starts.ensures.err)

pub returns-in_err-explore-clause-err : goal.returns-in_err-explore-clause-err
returns-in_err-explore-clause-err c =
    let p = err_from_is_err_and c.from_residual-in_err-explore.result c.from_residual-in_err-explore.ensures.1 in
    let prior = (goal.at.returns-in_err-explore-clause-err c).In_ok-construction in
    let kind = c.in_err-explore.field-0.0.kind in
    rw (p.1, p.2)
    (λ byte_classes begun.
    refused (begins prior byte_classes begun) kind (not_unsupported (supported prior))
    (refused_later c.in_ok-set_starts.ensures.later kind c.in_err-explore.ensures.err))

pub matches-requires-clause-count : goal.matches-requires-clause-count
matches-requires-clause-count c = c.in_ok-explore.ensures.entering.serves.working.count

pub matches-requires-clause-few : goal.matches-requires-clause-few
matches-requires-clause-few c =
    let serves = c.in_ok-explore.ensures.entering.serves in
    omega (arith, few_keys serves.working serves.rows)

pub matches-requires-clause-are_ids : goal.matches-requires-clause-are_ids
matches-requires-clause-are_ids c =
    let s = stepping_of c.explore.new.self.stepper in
    let serves = c.in_ok-explore.ensures.entering.serves in
    All-weaker (λ key. s.is_key key ≡ true) (λ key. All (λ k. k ≤ max_id) (label_of key))
    (λ key is_key. serves.spells.are_ids key is_key) c.explore.new.self.states.keys serves.working.are_keys

-- ---- all states that are reached have a row

later : (c : In_ok-explore) → Continues (work_of c.in_ok-construction.construction) c.args.dfa.now
    (work_of c.explore.new.self) c.explore.new.dfa
later c = continues_twice c.in_ok-set_starts.ensures.later c.in_ok-explore.ensures.later

pub returns-clause-rest : goal.returns-clause-rest
returns-clause-rest c = (later (goal.at.returns-clause-rest c).In_ok-explore).over

built : (c : In_ok-explore) {byte_classes : Bool}
    → Begins (work_of c.in_ok-construction.construction) (meaning c.args.nfa.now) c.args.settled.now byte_classes
    c.args.dfa.now → IsBuilt (work_of c.explore.new.self) c.explore.new.dfa
built c x = built_of x (later c) c.in_ok-explore.ensures.entering c.args.nfa.now.patterns

pub returns-clause-states : goal.returns-clause-states
returns-clause-states c =
    let prior = goal.at.returns-clause-states c in
    let x = begins prior.In_ok-construction c.requires.begun.0 c.requires.begun.1 in
    states_in x (later prior.In_ok-explore) (built prior.In_ok-explore x) c.in_ok-matches.ensures

pub returns-clause-fits : goal.returns-clause-fits
returns-clause-fits c byte_classes begun =
    let prior = goal.at.returns-clause-fits c in
    let x = begins prior.In_ok-construction byte_classes begun in
    fits x (later prior.In_ok-explore) (built prior.In_ok-explore x) (supported prior.In_ok-construction)

pub returns-in_err-construction-clause-err : goal.returns-in_err-construction-clause-err
returns-in_err-construction-clause-err c = grind (arith, common_steps, err_from_is_err_and)

pub returns-in_err-matches-clause-err : goal.returns-in_err-matches-clause-err
returns-in_err-matches-clause-err c = grind (arith, common_steps)
