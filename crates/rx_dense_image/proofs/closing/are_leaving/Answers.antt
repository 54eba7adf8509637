use Rattle.rx_spec.proofs.Prelude.{common_steps, ◌≡◌, ℕ, ◌+◌, true, false, sym, subst, arith, ap, not, ne_eqb, ◌∙◌}
use Rattle.rx_spec.proofs.Prelude.{eq-eqb}
use Rattle.rx_dense.specs.Parts.{layout_of}
use Rattle.rx_dense_image.specs.Closing.{leaves}
use Rattle.rx_image_parts.proofs.LeavingBytes.{AreMet, met_less, met_more, none_met}
use Rattle.rx_dense_image.proofs.LeavingRows.{all_leave, another_leaves, few_leave}
use Rattle.rx_dense_image.proofs.closing.are_leaving.Goals as goal
use Rattle.rx_dense_image.proofs.closing.are_leaving.Goals.{then-next_id-id+else-met-needles+else-needles-met}
use Rattle.rx_dense_image.proofs.closing.are_leaving.Goals.{else-next_id-id}
use Rattle.rx_dense.specs.Layouts.{next_id}

pub loop-byte-init : goal.loop-byte-init
loop-byte-init c = none_met c.args.needles.now _

pub loop-byte-preserved : goal.loop-byte-preserved
loop-byte-preserved c =
    let l = layout_of c.args.parts.now in
    let byte : ℕ = c.loop-byte.byte in
    elim c.if-next_id-id.branch [
      | then-next_id-id+else-met-needles+else-needles-met w ↦ (
          let passes : leaves l c.args.id byte ≡ true =
          ap not (ne_eqb (next_id l c.args.id byte) c.args.id (λ e. w.if-next_id-id.true (c.next_id.ensures ∙ e))) in
          subst (λ (m : ℕ). AreMet c.args.needles.now (leaves l c.args.id) m (byte + 1)) (sym w.met-is)
          (met_more c.loop-byte.invariant passes w.if-met-needles.false w.if-needles-met.false))
      | else-next_id-id w ↦ (
          let fails : leaves l c.args.id byte ≡ false =
          ap not (eq-eqb (next_id l c.args.id byte) c.args.id (sym c.next_id.ensures ∙ w.if-next_id-id.false)) in
          subst (λ (m : ℕ). AreMet c.args.needles.now (leaves l c.args.id) m (byte + 1)) (sym w.met-is)
          (met_less c.loop-byte.invariant fails))
    ]

pub returns-then-met-needles : goal.returns-then-met-needles
returns-then-met-needles c =
    let l = layout_of c.args.parts.now in
    let passes : leaves l c.args.id c.loop-byte.byte ≡ true =
    ap not (ne_eqb (next_id l c.args.id c.loop-byte.byte) c.args.id
    (λ e. c.if-next_id-id.true (c.next_id.ensures ∙ e))) in
    few_leave l c.args.id c.loop-byte.invariant c.loop-byte-test.true passes c.if-met-needles.true

pub returns-then-needles-met : goal.returns-then-needles-met
returns-then-needles-met c = grind (arith, common_steps, another_leaves)

pub returns : goal.returns
returns c = all_leave (layout_of c.args.parts.now) c.args.id c.loop-byte.invariant (omega arith)
