use Rattle.rx_spec.proofs.Prelude.{◌≡◌, length, subst, arith, err_from_is_err_and}
use Rattle.rx_determinize.proofs.Prelude.{IsEntering, keys_in, work_of}
use Rattle.rx_determinize.proofs.AddingLaws.{few_keys}
use Rattle.rx_determinize.proofs.ContinuesLaws.{continues_none, continues_twice, refused_later}
use Rattle.rx_determinize.proofs.ModelLaws.{models_none}
use Rattle.rx_determinize.proofs.construction.Construction.explore.Goals as goal

pub places-init : goal.places-init
places-init c =
    let w = work_of c.args.self.now in
    let l = c.args.dfa.now in
    record {
      exploring = record {
        entering = c.requires;
        models = models_none (keys_in w l) w.met l 0 c.new-models.result c.new-models.ensures;
      };
      later = continues_none w l;
    }

pub returns-in_err-step-clause-err : goal.returns-in_err-step-clause-err
returns-in_err-step-clause-err c =
    let p = err_from_is_err_and c.from_residual.result c.from_residual.ensures.1 in
    rw (p.1, p.2) (refused_later c.places.invariant.later c.in_err-step.field-0.0.kind c.in_err-step.ensures.err)

pub places-preserved : goal.places-preserved
places-preserved c =
    let e = c.in_ok-step.ensures in
    record { exploring = e.exploring; later = continues_twice c.places.invariant.later e.later }

pub places-smaller : goal.places-smaller
places-smaller c =
    let entering = c.places.invariant.exploring.entering in
    omega (arith, few_keys entering.serves.working entering.serves.rows)

pub returns-clause-entering : goal.returns-clause-entering
returns-clause-entering c =
    let entering = c.places.invariant.exploring.entering in
    let all : c.places.place ≡ length c.places.self.states.keys = omega arith in
    subst (IsEntering (work_of c.places.self) c.places.dfa (length c.places.dfa.starts)) all entering
