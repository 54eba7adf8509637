use Rattle.rx_spec.proofs.Prelude.{◌∙◌, IfOk-weaker}
use Rattle.rx_regex.proofs.PairImages.{pair_read_back}
use Rattle.rx_regex.proofs.form.read_pair_back.Goals as goal

pub pair_image-requires : goal.pair_image-requires
pair_image-requires g c = c.requires.patterns

pub returns-in-Ok : goal.returns-in-Ok
returns-in-Ok g c =
    IfOk-weaker c.own.result _ _
    (λ back e.
    e
    ∙ pair_read_back c.requires (c.deref.ensures.value ∙ c.in_ok-image.ensures) c.in-Ok.ensures.read)
    c.own.ensures
