use Rattle.rx_spec.proofs.Prelude.{sym, ap, ◌∙◌}
use Rattle.rx_dense_image.specs.Images.{text}
use Rattle.rx_wire.specs.declared.order.Order.{Order}
use Rattle.rx_regex.proofs.Whole.{is_dense_image}
use Rattle.rx_regex.proofs.dense_tables.OwnedDFATableForm.image.Goals as goal

pub returns-in_ok-to_bytes_little_endian-in-Little : goal.returns-in_ok-to_bytes_little_endian-in-Little
returns-in_ok-to_bytes_little_endian-in-Little c p which es is =
    is_dense_image p which es c.args.order _ c.args.self.now is.form is.safe is.built is.whole
    (c.in_ok-to_bytes_little_endian-in-Little.ensures.0
    ∙ ap (λ (order : Order). text order c.args.self.now) (sym c.in-Little.is))

pub returns-in_ok-to_bytes_big_endian-in-Big : goal.returns-in_ok-to_bytes_big_endian-in-Big
returns-in_ok-to_bytes_big_endian-in-Big c p which es is =
    is_dense_image p which es c.args.order _ c.args.self.now is.form is.safe is.built is.whole
    (c.in_ok-to_bytes_big_endian-in-Big.ensures.0
    ∙ ap (λ (order : Order). text order c.args.self.now) (sym c.in-Big.is))
