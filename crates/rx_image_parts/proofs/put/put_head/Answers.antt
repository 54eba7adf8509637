use Rattle.rx_image_parts.proofs.Behind.{and_then, of_word}
use Rattle.rx_image_parts.proofs.put.put_head.Goals as goal

pub returns-clause-put : goal.returns-clause-put
returns-clause-put g c =
    and_then c.put_plain-label.ensures.put
    (and_then c.put_word-order.ensures.put
    (and_then c.put_word-version.ensures.put
    (and_then c.put_word-unused.ensures.put (of_word g.E.Endian.order c.flags_word.ensures c.put_word.ensures.put))))
