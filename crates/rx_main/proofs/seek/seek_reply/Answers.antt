use Rattle.rx_spec.proofs.Prelude.{common_steps, ◌∙◌, ◌++◌, List, ℕ, ap, arith, length, length-append, subst, sym}
use Rattle.rx_transfer.proofs.Transfers.{consumes_more}
use Rattle.rx_base.specs.Search.{mode_of}
use Rattle.rx_main.specs.Replies.{ReadReplies}
use Rattle.rx_main.proofs.LiteralImages.{long_behind}
use Rattle.rx_main.proofs.seek.seek_reply.Goals as goal
use Rattle.rx_meaning.proofs.EndStarts.{not_anchored}

pub returns-in_err-sought-clause-long : goal.returns-in_err-sought-clause-long
returns-in_err-sought-clause-long g c = grind (arith, common_steps, long_behind)

pub returns-clause-replied : goal.returns-clause-replied
returns-clause-replied g c =
    let first = c.in_ok-read_up_to.ensures.bytes in
    let rest = c.in_ok-sought.ensures.sought in
    let text_is = first.1 ∙ ap (λ (l : List ℕ). l ++ first.0) c.requires.empty in
    let size = c.in_ok-read_up_to.ensures.whole c.if-branch.false in
    let n = ap length text_is in
    let all = length-append first.0 rest.0 in
    let count = rest.2.count in
    let image_is = sym text_is ∙ sym c.deref.ensures.value in
    let is = rw (c.in-Some.is, sym image_is) at c.in_ok-literal.ensures in (
      first.0 ++ rest.0,
      consumes_more (g.S.Source.left c.args.src.now) (g.S.Source.left c.read_up_to.new.src)
          (g.S.Source.left c.seek.new.src) first.0 rest.0 first.2 rest.1,
      omega (arith, all, n, size, count, c.in_ok-sought.ensures.few, c.if-len-gt-LONGEST.false),
      subst (λ command. ReadReplies command (first.0 ++ rest.0) c.in_ok-sought_reply.field-0) (sym c.in-Search.is)
          (c.in_ok-sought_reply.ensures first.0 rest.0 (sym n ∙ size)
          (not_anchored (mode_of c.in-Search.search.mode) (sym c.is_anchored.ensures ∙ c.if-is_anchored.false)) is
          (rw c.deref-2.ensures.value at rest.2)),
    )
