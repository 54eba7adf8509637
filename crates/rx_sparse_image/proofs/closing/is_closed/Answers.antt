use Rattle.rx_spec.proofs.Prelude.{arith, ◌≡◌, ◌&&◌, ◌==◌, true, length, refl, sym, ◌∙◌, common_steps, eq-eqb}
use Rattle.rx_sparse.specs.Layouts.{Layout}
use Rattle.rx_sparse.proofs.RowPlaces.{length-rows_in}
use Rattle.rx_sparse_image.specs.Closing.{are_special_rows, rows_stand}
use Rattle.rx_sparse_image.specs.Reading.{image_layout}
use Rattle.rx_sparse_image.proofs.closing.is_closed.Goals as goal
use Rattle.rx_sparse_image.proofs.closing.is_closed.Goals.{then-rows_stand, else-rows_stand}

pub returns-then-are_special_rows : goal.returns-then-are_special_rows
returns-then-are_special_rows c =
    let image = c.args.image.now in
    let l : Layout = image_layout image in
    let count : (length l.rows == image.parts.state_len) ≡ true =
    eq-eqb _ _ (length-rows_in image.parts.order image.parts.state_len image.rows.now) in
    let stand = c.rows_stand.ensures c.requires.marks in
    let both : c.if-rows_stand.value ≡ (rows_stand l && are_special_rows l l.special) =
    elim c.if-rows_stand.branch [
      | then-rows_stand w ↦
          (rw ((sym stand ∙ w.if-rows_stand.true), (w.value-is ∙ w.are_special_rows.ensures l c.requires.marks)) refl)
      | else-rows_stand w ↦ (rw ((w.value-is ∙ stand), (sym stand ∙ w.if-rows_stand.false)) refl)
    ] in
    grind (arith, common_steps)

pub returns-else-are_special_rows : goal.returns-else-are_special_rows
returns-else-are_special_rows c =
    let image = c.args.image.now in
    let l : Layout = image_layout image in
    let count : (length l.rows == image.parts.state_len) ≡ true =
    eq-eqb _ _ (length-rows_in image.parts.order image.parts.state_len image.rows.now) in
    let stand = c.rows_stand.ensures c.requires.marks in
    let both : c.if-rows_stand.value ≡ (rows_stand l && are_special_rows l l.special) =
    elim c.if-rows_stand.branch [
      | then-rows_stand w ↦
          (rw ((sym stand ∙ w.if-rows_stand.true), (w.value-is ∙ w.are_special_rows.ensures l c.requires.marks)) refl)
      | else-rows_stand w ↦ (rw ((w.value-is ∙ stand), (sym stand ∙ w.if-rows_stand.false)) refl)
    ] in
    grind (arith, common_steps)
