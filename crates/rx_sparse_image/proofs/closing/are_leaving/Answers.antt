use Rattle.rx_spec.proofs.Prelude.{common_steps, ◌≡◌, ℕ, ◌+◌, List, true, false, slice_index, sym, ap, ◌∙◌, subst}
use Rattle.rx_spec.proofs.Prelude.{arith}
use Rattle.rx_image_parts.proofs.LeavingBytes.{AreMet, met_less, met_more, none_met}
use Rattle.rx_sparse.specs.Rows.{Row, next_among}
use Rattle.rx_sparse_image.specs.Closing.{leaves}
use Rattle.rx_sparse_image.specs.Reading.{row_of}
use Rattle.rx_sparse_image.proofs.PartsOfRows.{ends_some, ids_len}
use Rattle.rx_sparse_image.proofs.LeavingBytes.{all_leave, another_leaves, few_leave, leaves_where, stays_where}
use Rattle.rx_sparse_image.proofs.closing.are_leaving.Goals as goal
use Rattle.rx_sparse_image.proofs.closing.are_leaving.Goals.{then-next-at+else-met-needles+else-needles-met}
use Rattle.rx_sparse_image.proofs.closing.are_leaving.Goals.{else-next-at}

pub loop-byte-init : goal.loop-byte-init
loop-byte-init c = none_met c.args.needles.now _

pub next-requires-clause-some : goal.next-requires-clause-some
next-requires-clause-some c = ends_some c.requires

pub next-requires-clause-words : goal.next-requires-clause-words
next-requires-clause-words c = ids_len c.requires

pub loop-byte-preserved : goal.loop-byte-preserved
loop-byte-preserved c =
    let classes : List ℕ = c.args.image.now.parts.classes in
    let row : Row = row_of c.args.image.now.parts.order c.args.row.now in
    let at : ℕ = c.args.at in
    let byte : ℕ = c.loop-byte.byte in
    let is : c.next.result ≡ next_among row.ranges (slice_index classes byte) =
    c.next.ensures ∙ ap (next_among row.ranges) c.get-class.ensures in
    elim c.if-next-at.branch [
      | then-next-at+else-met-needles+else-needles-met w ↦ (
          let passes : leaves classes at row byte ≡ true =
          leaves_where classes at row byte c.next.result c.loop-byte-test.true is w.if-next-at.true in
          subst (λ (m : ℕ). AreMet c.args.needles.now (leaves classes at row) m (byte + 1)) (sym w.met-is)
          (met_more c.loop-byte.invariant passes w.if-met-needles.false w.if-needles-met.false))
      | else-next-at w ↦ (
          let fails : leaves classes at row byte ≡ false =
          stays_where classes at row byte c.next.result c.loop-byte-test.true is w.if-next-at.false in
          subst (λ (m : ℕ). AreMet c.args.needles.now (leaves classes at row) m (byte + 1)) (sym w.met-is)
          (met_less c.loop-byte.invariant fails))
    ]

pub returns-then-met-needles : goal.returns-then-met-needles
returns-then-met-needles c = grind (arith, common_steps, few_leave)

pub returns-then-needles-met : goal.returns-then-needles-met
returns-then-needles-met c = grind (arith, common_steps, another_leaves)

pub returns : goal.returns
returns c =
    all_leave c.args.image.now.parts.classes c.args.at (row_of c.args.image.now.parts.order c.args.row.now)
    c.loop-byte.invariant (omega arith)
