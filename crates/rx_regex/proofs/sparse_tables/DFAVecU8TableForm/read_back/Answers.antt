use Rattle.rx_spec.proofs.Prelude.{◌∙◌, IfOk-weaker}
use Rattle.rx_regex.proofs.Whole.{is_little, sparse_read_again}
use Rattle.rx_regex.proofs.sparse_tables.DFAVecU8TableForm.read_back.Goals as goal

pub returns-in-Ok : goal.returns-in-Ok
returns-in-Ok c p which es is =
    IfOk-weaker c.to_owned.result _ _
    (λ back e.
    e
    ∙ sparse_read_again c.args.self.now c.in-Ok.lent c.in-Ok.field-0-1 c.deref.result.now is.whole
    (is_little p which es c.args.self.now is.built) (c.deref.ensures.value ∙ c.in_ok-image.ensures)
    c.in-Ok.ensures.read)
    c.to_owned.ensures
