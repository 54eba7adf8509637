use Rattle.rx_spec.proofs.Prelude.{ap, ◌∙◌, arith, unit_facts, state_at, cut}
use Rattle.rx_base.specs.Unit.{unit_number}
use Rattle.rx_expr.specs.Nfa.{meaning}
use Rattle.rx_powerset.specs.PowerState.{state_of}
use Rattle.rx_powerset.proofs.Steps.{answered, decided, Parts, stepped}
use Rattle.rx_lemmas.proofs.StateBounds.{few_told}
use Rattle.rx_powerset.proofs.state.PowerState.step.Goals as goal

pub returns : goal.returns
returns c =
    let nfa = meaning c.args.nfa.now in
    let s = state_of c.args.self.now in
    let unit = unit_number c.args.unit in
    let known = c.of_unit-known.ensures ∙ ap (λ t. unit_facts t unit) c.line_terminator.ensures in
    let settled = decided nfa s unit known c.direction.ensures c.deref.ensures.value c.in_ok-settled.ensures.rows in
    let parts : Parts nfa c.args.kind s unit c.of_unit-known.result c.cut-going.result.now _ _ = record {
      known_is = known;
      going_is = c.cut-going.ensures ∙ ap (cut c.args.kind nfa.rows) (c.deref-2.ensures.value ∙ settled);
      targets_are = c.in_ok-targets.ensures;
      label_is = c.in_ok-label.ensures;
    } in
    let from = ap (λ l. state_at nfa l c.of_unit-known.result c.in_ok-label.label.items) c.deref-3.ensures.value in
    answered state_of c.at.result (from ∙ stepped parts) c.at.ensures

pub at-requires : goal.at-requires
at-requires c =
    let told = few_told c.args.kind (meaning c.args.nfa.now).rows _ c.cut-going.ensures c.in_ok-label.ensures in
    omega (arith, c.in_ok-settled.ensures.bound)
