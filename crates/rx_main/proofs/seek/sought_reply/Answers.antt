use Rattle.rx_spec.proofs.Prelude.{arith, ◌∙◌, Option, [], ap, common_steps, IfOk-weaker, Match}
use Rattle.rx_main.specs.Find.{found_reply}
use Rattle.rx_main.proofs.LiteralImages.{ends_within, found_told, unfit_told}
use Rattle.rx_main.proofs.seek.sought_reply.Goals as goal

pub returns-then-not-fits : goal.returns-then-not-fits
returns-then-not-fits c = grind (arith, common_steps, unfit_told)

pub match_at-requires : goal.match_at-requires
match_at-requires c = grind (arith, common_steps, ends_within)

pub returns : goal.returns
returns c =
    IfOk-weaker c.answer_reply.result _ _
    (λ reply told image text size mode is sought.
    found_told c.args.search.now image text c.args.literal.now.bytes.items size mode is sought
    (c.fits.ensures.0 c.if-not-fits.false).0 (c.fits.ensures.0 c.if-not-fits.false).1 reply
    (told ∙ ap (λ (found : Option Match). found_reply found []) c.match_at.ensures))
    c.answer_reply.ensures
