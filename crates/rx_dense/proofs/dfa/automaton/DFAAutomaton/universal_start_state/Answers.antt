use Rattle.rx_spec.proofs.Prelude.{◌∙◌, sym, ap}
use Rattle.rx_base.specs.Search.{mode_of}
use Rattle.rx_dense.proofs.Rows.{IsId-row_id, valid_id}
use Rattle.rx_dense.proofs.RowKinds.{universal_at, invalid_universal, universal_is}
use Rattle.rx_dense.proofs.dfa.automaton.DFAAutomaton.universal_start_state.Goals as goal
use Rattle.rx_dense.specs.Layouts.{universal_row}

pub returns-in-None-clause-row : goal.returns-in-None-clause-row
returns-in-None-clause-row g c =
    sym (universal_is c.args.self.now (mode_of c.args.mode) ∙ ap (universal_row c.args.self.now)
    (sym c.universal_id.ensures ∙ c.in-None.is))

pub returns-then-is_valid-clause-is_id : goal.returns-then-is_valid-clause-is_id
returns-then-is_valid-clause-is_id g c =
    IsId-row_id c.args.self.now c.in-Some.id
    (valid_id c.args.self.now c.is_valid.ensures.rows c.in-Some.id (sym c.is_valid.ensures.value ∙ c.if-is_valid.true))

pub returns-then-is_valid-clause-row : goal.returns-then-is_valid-clause-row
returns-then-is_valid-clause-row g c =
    universal_at c.args.self.now c.is_valid.ensures.rows (mode_of c.args.mode) c.in-Some.id
    (sym c.universal_id.ensures ∙ c.in-Some.is) (sym c.is_valid.ensures.value ∙ c.if-is_valid.true)

pub returns-else-is_valid-clause-row : goal.returns-else-is_valid-clause-row
returns-else-is_valid-clause-row g c =
    invalid_universal c.args.self.now (mode_of c.args.mode) c.in-Some.id
    (sym c.universal_id.ensures ∙ c.in-Some.is) (sym c.is_valid.ensures.value ∙ c.if-is_valid.false)
