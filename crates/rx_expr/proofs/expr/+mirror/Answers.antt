use Rattle.rx_spec.proofs.Prelude.{◌∙◌}
use Rattle.rx_expr.proofs.MirroredForms.{IsKeptOf-mirror}
use Rattle.rx_expr.proofs.expr.+mirror.Goals as goal

pub Inner::mirror-inner-requires-clause-least : goal.Inner::mirror-inner-requires-clause-least
Inner::mirror-inner-requires-clause-least t c = (IsKeptOf-mirror c.requires c.in_ok-form.ensures.ok).least

pub Inner::mirror-inner-requires-clause-rows : goal.Inner::mirror-inner-requires-clause-rows
Inner::mirror-inner-requires-clause-rows t c =
    c.from.ensures ∙ (IsKeptOf-mirror c.requires c.in_ok-form.ensures.ok).rows

pub Inner::mirror-inner-requires-clause-depth : goal.Inner::mirror-inner-requires-clause-depth
Inner::mirror-inner-requires-clause-depth t c = (IsKeptOf-mirror c.requires c.in_ok-form.ensures.ok).depth_is

pub Inner::mirror-inner-requires-clause-safe : goal.Inner::mirror-inner-requires-clause-safe
Inner::mirror-inner-requires-clause-safe t c = (IsKeptOf-mirror c.requires c.in_ok-form.ensures.ok).safe
