use Rattle.rx_spec.proofs.Prelude.{common_steps, ◌+◌, ℕ, List, Option, sym, subst, arith}
use Rattle.rx_determinize.proofs.Prelude.{AreModels, IsAllAlone, kept_in, keys_in, work_of}
use Rattle.rx_determinize.proofs.ColumnLaws.{units_count}
use Rattle.rx_determinize.proofs.ModelLaws.{model_added, model_of_alone}
use Rattle.rx_determinize.proofs.construction.Construction.keep_model.Goals as goal

pub overflow_add-place : goal.overflow_add-place
overflow_add-place c = grind (arith, common_steps)

pub returns : goal.returns
returns c =
    let w = work_of c.args.self.now in
    let l = c.args.dfa.now in
    let r = c.requires in
    let serves = r.exploring.entering.serves in
    let count = units_count l w.units serves.rows.classes serves.units in
    let alone : IsAllAlone w.stepping l = λ column low. c.next_own.ensures.alone column (omega arith)
    (omega arith) in
    let Are = λ (models : List (Option ℕ)). AreModels (keys_in w l) w.met l models (c.args.place + 1) in
    record {
      entering = r.exploring.entering;
      models =
          subst Are (sym c.keep.ensures)
          (subst (λ (o : Option ℕ). Are (kept_in c.args.models.now o (c.args.place + 2))) (sym c.led_in.ensures)
          (model_added c.args.models.now w.stepping.led_in (c.args.place + 1) (c.args.place + 2) (omega arith)
          (model_of_alone c.args.place r.current serves alone) r.exploring.models));
    }
