use Rattle.rx_spec.proofs.Prelude.{refl, arith}
use Rattle.rx_image_parts.proofs.Behind.{and_then, filled, of_word, put_same}
use Rattle.rx_image.proofs.head.write_head.Goals as goal

pub returns : goal.returns
returns g c =
    filled
    (and_then (put_same refl c.put_plain-label.ensures.put)
    (and_then c.put_word-order.ensures.put
    (and_then c.put_word-version.ensures.put
    (of_word g.E.Endian.order c.form_number.ensures c.put_word.ensures.put))))
    (omega (
      arith,
      c.requires,
      c.put_plain-label.ensures.place,
      c.put_word-order.ensures.place,
      c.put_word-version.ensures.place,
      c.put_word.ensures.place,
    ))
