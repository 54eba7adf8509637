use Rattle.rx_spec.proofs.Prelude.{◌≡◌, ◌*◌, ℕ, Some, ap, sym, ◌∙◌, subst, arith}
use Rattle.rx_determinize.proofs.Prelude.{IsCopied, model_row, stepping_of, stride}
use Rattle.rx_determinize.proofs.ModelLaws.{model_before, stepping_copied}
use Rattle.rx_determinize.proofs.SteppingLaws.{place_row}
use Rattle.rx_determinize.proofs.construction.Construction.begin_row.Goals.{In-Some}
use Rattle.rx_determinize.proofs.construction.Construction.begin_row.Goals as goal

is_model : (c : In-Some) → model_row c.args.models.now (stepping_of c.args.self.now.stepper).led_in ≡ Some c.in-Some.row
is_model c = ap (model_row c.args.models.now) (sym c.led_in.ensures) ∙ sym c.row.ensures ∙ c.in-Some.is

pub row_id-from-requires : goal.row_id-from-requires
row_id-from-requires c =
    let before = model_before c.args.models.now c.args.place (stepping_of c.args.self.now.stepper).led_in
    c.requires.models (is_model (goal.at.row_id-from-requires c).In-Some) in
    omega arith

pub row_id-to-requires : goal.row_id-to-requires
row_id-to-requires c = place_row c.requires.stepping

pub returns-clause-stepping : goal.returns-clause-stepping
returns-clause-stepping c =
    let l = c.args.dfa.now in
    let Is = λ (from to : ℕ). IsCopied (stride l) l.words c.copy_state.new.self.words from to in
    stepping_copied c.args.models.now c.requires.models
    (record {
      row = c.in-Some.row;
      is_model = is_model (goal.at.returns-clause-stepping c).In-Some;
      over = c.copy_state.ensures.rest;
      copied = subst (Is (c.in-Some.row * stride l)) c.row_id-to.ensures.value
          (subst (λ from. Is from c.row_id-to.result) c.row_id-from.ensures.value c.copy_state.ensures.copied);
      rows = c.copy_state.ensures.rows;
    })
    c.requires.stepping
