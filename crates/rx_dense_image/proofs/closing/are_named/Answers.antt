use Rattle.rx_spec.proofs.Prelude.{◌≡◌, ℕ, ◌+◌, ◌*◌, ◌/◌, Bool, true, false, sym, ap, ◌∙◌, arith, rules, below_more}
use Rattle.rx_dense.specs.Layouts.{Layout, stride}
use Rattle.rx_dense.specs.Parts.{layout_of}
use Rattle.rx_image_parts.specs.SpecialIds.{is_named}
use Rattle.rx_image_parts.proofs.EachBelow.{all_of, not_all}
use Rattle.rx_dense_image.proofs.closing.are_named.Goals as goal

-- the test of a row
abbrev row_named : Layout → ℕ → Bool
row_named l row = is_named l.special (row * stride l)

same_count : (a b s t : ℕ) → a ≡ b → s ≡ t → a / s + 1 ≡ b / t + 1
same_count a b s t e f = cc

pub loop-row-preserved : goal.loop-row-preserved
loop-row-preserved c =
    let l = layout_of c.args.parts.now in
    let row : ℕ = c.loop-row.row in
    let here : row_named l row ≡ true =
    sym (ap (λ (s : ℕ). is_named l.special (row * s)) c.stride-stride.ensures.value)
    ∙ sym c.is_named.ensures ∙ (search rules) in
    below_more (λ k. row_named l k ≡ true) row c.loop-row.invariant here

pub returns-then-not-is_named : goal.returns-then-not-is_named
returns-then-not-is_named c =
    let l = layout_of c.args.parts.now in
    let row : ℕ = c.loop-row.row in
    let here : row_named l row ≡ false =
    sym (ap (λ (s : ℕ). is_named l.special (row * s)) c.stride-stride.ensures.value)
    ∙ sym c.is_named.ensures ∙ (search rules) in
    let count = same_count _ _ _ _ c.as_usize.ensures.value c.stride-stride.ensures.value in
    sym (not_all (l.special.max / stride l + 1) (row_named l) row (omega arith) here)

pub returns : goal.returns
returns c =
    let l = layout_of c.args.parts.now in
    let count = same_count _ _ _ _ c.as_usize.ensures.value c.stride-stride.ensures.value in
    sym (all_of (l.special.max / stride l + 1) (row_named l)
    (λ k lt. c.loop-row.invariant k (omega arith)))
