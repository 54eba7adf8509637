use Rattle.rx_spec.proofs.Prelude.{sym, subst, err_from_is_err_and, BuildFits}
use Rattle.rx_expr.specs.Nfa.{meaning}
use Rattle.rx_expr.specs.Refusals.{IsRefused, TableRefused}
use Rattle.rx_determinize.specs.Begun.{IsBegun, IsBegunWith, build_in, limits_of}
use Rattle.rx_determinize.proofs.LimitLaws.{beginning_of}
use Rattle.rx_build.specs.Determinized.{IsDeterminized}
use Rattle.rx_build.proofs.DeterminizedLaws.{IsInPlace, determinized}
use Rattle.rx_build.proofs.determinize.Config.run.Goals as goal

pub determinize-requires : goal.determinize-requires
determinize-requires c = record {
  begun = subst (λ s. IsBegun (meaning c.args.nfa.now) s c.args.dfa.now) (sym c.self.view_is) c.requires.begun;
}

pub returns-in_err-matches-clause-err : goal.returns-in_err-matches-clause-err
returns-in_err-matches-clause-err c =
    let nfa = meaning c.args.nfa.now in
    let l = c.args.dfa.now in
    let p = err_from_is_err_and c.from_residual.result c.from_residual.ensures.1 in
    let kind = c.in_err-matches.field-0.0.kind in
    rw (p.1, p.2)
    (λ byte_classes begun.
    subst (λ s. IsRefused (TableRefused (limits_of s byte_classes) (build_in nfa s l)) kind) c.self.view_is
    (c.in_err-matches.ensures.err byte_classes
    (subst (λ s. IsBegunWith nfa s byte_classes l) (sym c.self.view_is) begun)))

pub shuffle-requires : goal.shuffle-requires
shuffle-requires c = c.in_ok-matches.ensures.states.are_matches

pub returns-in-Ok-clause-ok : goal.returns-in-Ok-clause-ok
returns-in-Ok-clause-ok c =
    let nfa = meaning c.args.nfa.now in
    let l = c.args.dfa.now in
    let begun = c.requires.begun in
    let place : IsInPlace c.determinize.new.dfa c.in_ok-matches.matches c.shuffle.new.dfa = record {
      shuffled = c.in-Ok.ensures.ok;
      sound = c.in-Ok.ensures.sound;
      joined = c.in-Ok.ensures.joined_len;
    } in
    subst (λ s. IsDeterminized (build_in nfa s l) l c.shuffle.new.dfa) c.self.view_is
    (determinized (beginning_of nfa c.args.self.now begun.0 l) begun.1 c.in_ok-matches.ensures.rest
    c.in_ok-matches.ensures.states place)

pub returns-in-Ok-clause-fits : goal.returns-in-Ok-clause-fits
returns-in-Ok-clause-fits c byte_classes begun =
    let nfa = meaning c.args.nfa.now in
    let l = c.args.dfa.now in
    subst (λ s. BuildFits (limits_of s byte_classes) (build_in nfa s l)) c.self.view_is
    (c.in_ok-matches.ensures.fits byte_classes
    (subst (λ s. IsBegunWith nfa s byte_classes l) (sym c.self.view_is) begun))
