use Rattle.rx_spec.proofs.Prelude.{common_steps, ◌≡◌, true, refl, sym, ◌∙◌, arith, false≢true}
use Rattle.rx_image_parts.proofs.Behind.{and_then}
use Rattle.rx_sparse.proofs.RowTexts.{length-rows}
use Rattle.rx_sparse_image.proofs.Pieces.{are_whole, rows_there}
use denote.Enum.Bare.{sameb}
use Rattle.rx_wire.specs.declared.order.Order.{Order}
use Rattle.rx_wire.specs.contracts.order.Order.{the_type}
use Rattle.rx_sparse_image.proofs.put.put_row_bytes.Goals as goal

one_order : (a b : Order) → sameb the_type a b ≡ true → a ≡ b
one_order Order.Little Order.Little h = refl
one_order Order.Little Order.Big h = absurd (false≢true h)
one_order Order.Big Order.Little h = absurd (false≢true h)
one_order Order.Big Order.Big h = refl

pub put_plain-requires : goal.put_plain-requires
put_plain-requires g c = grind (arith, common_steps, length-rows)

pub put_rows-requires-clause-rows : goal.put_rows-requires-clause-rows
put_rows-requires-clause-rows g c = grind (arith, common_steps, are_whole)

pub put_rows-requires-clause-fits : goal.put_rows-requires-clause-fits
put_rows-requires-clause-fits g c = grind (arith, common_steps, length-rows)

pub returns-then-eq-clause-place : goal.returns-then-eq-clause-place
returns-then-eq-clause-place g c = grind (arith, common_steps, length-rows)

pub returns-then-eq-clause-put : goal.returns-then-eq-clause-put
returns-then-eq-clause-put g c =
    let other = g.E.Endian.order in
    let same : c.args.dfa.now.order ≡ other =
    sym c.order.ensures
    ∙ one_order c.order.result c.args.order (sym c.eq.ensures ∙ c.if-eq.true)
    ∙ c.requires.order in
    grind (arith, common_steps, and_then)

pub returns-else-eq-clause-place : goal.returns-else-eq-clause-place
returns-else-eq-clause-place g c = grind (arith, common_steps, length-rows)

pub returns-else-eq-clause-put : goal.returns-else-eq-clause-put
returns-else-eq-clause-put g c = grind (arith, common_steps, rows_there, and_then)
