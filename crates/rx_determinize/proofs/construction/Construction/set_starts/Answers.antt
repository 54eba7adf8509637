use Rattle.rx_spec.proofs.Prelude.{common_steps, ◌≡◌, ◌+◌, ◌*◌, ℕ, Bool, true, false, length, ap, ap₂, sym, ◌∙◌, subst}
use Rattle.rx_spec.proofs.Prelude.{arith, err_from_is_err_and, then_some, is_some, slice_get, Nfa, has_anchored}
use Rattle.rx_spec.proofs.Prelude.{has_unanchored}
use Rattle.rx_determinize.proofs.Prelude.{Continues, IsEntering, Layout, meaning, work_of}
use Rattle.rx_determinize.proofs.ContinuesLaws.{continues_twice, refused_later}
use Rattle.rx_determinize.proofs.ModeLaws.{entries_with, entries_without, starts_at_no, starts_at_pattern}
use Rattle.rx_determinize.proofs.ModeLaws.{starts_at_yes, entries_twelve, starts_later}
use Rattle.rx_determinize.proofs.construction.Construction.set_starts.Goals.{In_ok-set_mode-2}
use Rattle.rx_determinize.proofs.construction.Construction.set_starts.Goals as goal

pub set_mode-requires-clause-starts : goal.set_mode-requires-clause-starts
set_mode-requires-clause-starts c =
    starts_at_no (work_of c.args.self.now) c.args.dfa.now
    (c.then_some-unanchored.ensures
    ∙ ap₂ (λ (b : Bool) (x : ℕ). then_some b x) (c.has_unanchored.ensures ∙ ap has_unanchored c.start_kind-kind.ensures)
    (c.start_unanchored.ensures ∙ ap (λ (n : Nfa). n.start_unanchored) (sym c.requires.nfa)))

pub set_mode-requires-clause-entries : goal.set_mode-requires-clause-entries
set_mode-requires-clause-entries c = omega (arith, entries_twelve c.requires.entries)

pub set_mode-requires-2-clause-starts : goal.set_mode-requires-2-clause-starts
set_mode-requires-2-clause-starts c =
    starts_later c.in_ok-set_mode.ensures.later
    (starts_at_yes (work_of c.args.self.now) c.args.dfa.now
    (c.then_some-anchored.ensures
    ∙ ap₂ (λ (b : Bool) (x : ℕ). then_some b x) (c.has_anchored.ensures ∙ ap has_anchored c.start_kind-kind.ensures)
    (c.start_anchored.ensures ∙ ap (λ (n : Nfa). n.start_anchored) (sym c.requires.nfa))))

pub set_mode-requires-2-clause-entries : goal.set_mode-requires-2-clause-entries
set_mode-requires-2-clause-entries c = grind (arith, common_steps)

pub returns-in_err-set_mode-2-clause-err : goal.returns-in_err-set_mode-2-clause-err
returns-in_err-set_mode-2-clause-err c =
    let p = err_from_is_err_and c.from_residual-in_err-set_mode-2.result c.from_residual-in_err-set_mode-2.ensures.1 in
    rw (p.1, p.2)
    (refused_later c.in_ok-set_mode.ensures.later c.in_err-set_mode-2.field-0.0.kind c.in_err-set_mode-2.ensures.err)

-- the entries of the two modes are set
both : (c : In_ok-set_mode-2) → Continues (work_of c.args.self.now) c.args.dfa.now (work_of c.set_mode-2.new.self)
    c.set_mode-2.new.dfa
both c = continues_twice c.in_ok-set_mode.ensures.later c.in_ok-set_mode-2.ensures.later

-- whether patterns have entries of their own
own : (c : In_ok-set_mode-2) → is_some c.args.dfa.now.pattern_starts ≡ is_some c.set_mode-2.new.dfa.pattern_starts
own c = ap (λ (n : Layout). is_some n.pattern_starts) (sym (both c).over.rest)

pub returns-then-not-starts_for_each_pattern-clause-entering :
    goal.returns-then-not-starts_for_each_pattern-clause-entering
returns-then-not-starts_for_each_pattern-clause-entering c =
    let prior = (goal.at.returns-then-not-starts_for_each_pattern-clause-entering c).In_ok-set_mode-2 in
    let m = c.set_mode-2.new.dfa in
    let none : is_some c.args.dfa.now.pattern_starts ≡ false =
    own prior ∙ sym c.starts_for_each_pattern.ensures ∙ c.if-not-starts_for_each_pattern.true in
    let count : 12 ≡ length m.starts = sym ((both prior).over.count ∙ entries_without c.requires.entries none) in
    subst (λ n. IsEntering (work_of c.set_mode-2.new.self) m n 0) count c.in_ok-set_mode-2.ensures.entering

pub returns-then-not-starts_for_each_pattern-clause-later :
    goal.returns-then-not-starts_for_each_pattern-clause-later
returns-then-not-starts_for_each_pattern-clause-later c =
    both (goal.at.returns-then-not-starts_for_each_pattern-clause-later c).In_ok-set_mode-2

pub patterns-init : goal.patterns-init
patterns-init c = record {
  entering = c.in_ok-set_mode-2.ensures.entering;
  later = both (goal.at.patterns-init c).In_ok-set_mode-2;
}

pub set_mode-requires-in-patterns-clause-starts : goal.set_mode-requires-in-patterns-clause-starts
set_mode-requires-in-patterns-clause-starts c =
    let prior = (goal.at.set_mode-requires-in-patterns-clause-starts c).In_ok-set_mode-2 in
    let some : is_some c.args.dfa.now.pattern_starts ≡ true =
    own prior ∙ sym c.starts_for_each_pattern.ensures ∙ c.if-not-starts_for_each_pattern.false in
    starts_later c.patterns.invariant.later
    (starts_at_pattern (work_of c.args.self.now) c.args.dfa.now c.must-pattern.result some
    (c.start_pattern-start.ensures ∙ ap (λ (n : Nfa). slice_get n.start_patterns c.must-pattern.result) (sym
    c.requires.nfa)))

pub returns-in_err-set_mode-3-clause-err : goal.returns-in_err-set_mode-3-clause-err
returns-in_err-set_mode-3-clause-err c =
    let p = err_from_is_err_and c.from_residual-in_err-set_mode-3.result c.from_residual-in_err-set_mode-3.ensures.1 in
    rw (p.1, p.2)
    (refused_later c.patterns.invariant.later c.in_err-set_mode-3.field-0.0.kind c.in_err-set_mode-3.ensures.err)

pub patterns-preserved : goal.patterns-preserved
patterns-preserved c =
    let e = c.in_ok-set_mode-3.ensures in
    let call = c.set_mode-in-patterns in
    let place : 12 + 6 * c.must-pattern.result + 6 ≡ 12 + 6 * (c.patterns.k + 1) = omega arith in
    record {
      entering = subst (λ n. IsEntering (work_of call.new.self) call.new.dfa n 0) place e.entering;
      later = continues_twice c.patterns.invariant.later e.later;
    }

pub returns-clause-entering : goal.returns-clause-entering
returns-clause-entering c =
    let i = c.patterns.invariant in
    let prior = (goal.at.returns-clause-entering c).In_ok-set_mode-2 in
    let some : is_some c.args.dfa.now.pattern_starts ≡ true =
    own prior ∙ sym c.starts_for_each_pattern.ensures ∙ c.if-not-starts_for_each_pattern.false in
    let n : ℕ = length (meaning c.args.nfa.now).start_patterns in
    let entries : length c.args.dfa.now.starts ≡ 12 + 6 * n = entries_with c.requires.entries some in
    let count : 12 + 6 * c.patterns.k ≡ length c.patterns.dfa.starts =
    omega arith in
    subst (λ k. IsEntering (work_of c.patterns.self) c.patterns.dfa k 0) count i.entering
