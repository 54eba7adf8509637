use Rattle.rx_spec.proofs.Prelude.{◌∙◌}
use Rattle.rx_wire.specs.declared.order.Order.{Order}
use Rattle.rx_regex.proofs.Whole.{dense_again}
use Rattle.rx_regex.proofs.dense_tables.OwnedDFATableForm.read_back.Goals as goal

pub returns-in-Ok : goal.returns-in-Ok
returns-in-Ok c p which es is =
    dense_again c.args.self.now c.in-Ok.back c.in-Ok.field-0-1 Order.Little c.deref.result.now is.whole
    (c.deref.ensures.value ∙ c.in_ok-image.ensures.0) c.in-Ok.ensures.read
