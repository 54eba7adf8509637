use Rattle.rx_spec.proofs.Prelude.{◌≡◌, ℕ, ◌+◌, ◌*◌, ◌<◌, true, false, eqb, length, sym, subst, ◌∙◌, arith, rules}
use Rattle.rx_spec.proofs.Prelude.{below_more, eq-eqb, and_from, and_right}
use Rattle.rx_dense.specs.Parts.{layout_of}
use Rattle.rx_dense.specs.Layouts.{IsRowId, stride}
use Rattle.rx_dense_image.specs.Closing.{has_needles, range_len}
use Rattle.rx_image_parts.proofs.EachBelow.{all_of, not_all}
use Rattle.rx_dense_image.proofs.AccelRows.{range_row, row_id_of, special_rows}
use Rattle.rx_dense_image.proofs.closing.accels_stand.Goals as goal

pub has_needles-requires-clause-row : goal.has_needles-requires-clause-row
has_needles-requires-clause-row c =
    let l = layout_of c.args.parts.now in
    let first = row_id_of l c.requires.rows l.special.min_accel (special_rows l c.requires.special).min_accel in
    let last = row_id_of l c.requires.rows l.special.max_accel (special_rows l c.requires.special).max_accel in
    let row : IsRowId l (l.special.min_accel + c.loop-i.i * stride l) =
    range_row l c.requires.rows l.special.min_accel l.special.max_accel c.loop-i.i first last
    (subst (λ (n : ℕ). c.loop-i.i < n) (c.if-len-range_len.false ∙ c.range_len.ensures) c.loop-i-test.true) in
    subst (IsRowId l) (cc) row

pub loop-i-preserved : goal.loop-i-preserved
loop-i-preserved c =
    let l = layout_of c.args.parts.now in
    below_more (λ k. has_needles l k ≡ true) c.loop-i.i c.loop-i.invariant (sym c.has_needles.ensures ∙ (search rules))

pub returns-then-not-has_needles : goal.returns-then-not-has_needles
returns-then-not-has_needles c =
    let l = layout_of c.args.parts.now in
    let has : c.has_needles.result ≡ false = search rules in
    sym (and_right (eqb (length l.accels) (range_len l l.special.min_accel l.special.max_accel)) _
    (not_all (length l.accels) (has_needles l) c.loop-i.i
    (subst (λ (n : ℕ). c.loop-i.i < n) c.len-len.ensures.value c.loop-i-test.true) (sym c.has_needles.ensures ∙ has)))

pub returns : goal.returns
returns c =
    let l = layout_of c.args.parts.now in
    sym (and_from (eqb (length l.accels) (range_len l l.special.min_accel l.special.max_accel)) _
    (eq-eqb _ _ (sym c.len-len.ensures.value ∙ c.if-len-range_len.false ∙ c.range_len.ensures))
    (all_of (length l.accels) (has_needles l)
    (λ k lt. c.loop-i.invariant k (omega arith))))
