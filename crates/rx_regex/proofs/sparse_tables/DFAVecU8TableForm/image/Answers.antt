use Rattle.rx_spec.proofs.Prelude.{sym, ap, ◌∙◌, IfOk-weaker}
use Rattle.rx_sparse_image.specs.Images.{text}
use Rattle.rx_wire.specs.declared.order.Order.{Order}
use Rattle.rx_regex.proofs.Whole.{is_sparse_image}
use Rattle.rx_regex.proofs.sparse_tables.DFAVecU8TableForm.image.Goals as goal

pub returns-in-Little : goal.returns-in-Little
returns-in-Little c p which es is =
    IfOk-weaker c.to_bytes_little_endian.result _ _
    (λ image written.
    is_sparse_image p which es c.args.order image.items c.args.self.now is.form is.safe is.built is.whole
    (written ∙ ap (λ (order : Order). text order c.args.self.now.layout) (sym c.in-Little.is)))
    c.to_bytes_little_endian.ensures

pub returns-in-Big : goal.returns-in-Big
returns-in-Big c p which es is =
    IfOk-weaker c.to_bytes_big_endian.result _ _
    (λ image written.
    is_sparse_image p which es c.args.order image.items c.args.self.now is.form is.safe is.built is.whole
    (written ∙ ap (λ (order : Order). text order c.args.self.now.layout) (sym c.in-Big.is)))
    c.to_bytes_big_endian.ensures
