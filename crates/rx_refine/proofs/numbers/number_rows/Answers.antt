use Rattle.rx_refine.proofs.Prelude.{arith, get_or, get_or-set_same, length, ◌<◌, ◌≡◌}
use Rattle.rx_refine.proofs.NumberedRows.{numbered_kept, numbered_again, numbered_new, NumbersRows_end}
use Rattle.rx_refine.proofs.numbers.number_rows.Goals as goal
use Rattle.rx_refine.proofs.numbers.number_rows.Goals.{then-key-kept, then-names-key, else-names-key, else-key-kept}

pub loop-row-preserved : goal.loop-row-preserved
loop-row-preserved c =
    let row = get_or c.args.members.now c.loop-row.row-index 0 in
    let key = get_or c.args.keys.now row 0 in
    let in_rows : row < length c.args.keys.now = c.requires.rows c.loop-row.row-index 0 c.loop-row-test.true in
    let in_names : key < length c.loop-row.names = let h = c.requires.keys row 0 in_rows in omega arith in
    let at = c.loop-row-test.true in
    let numbering = c.loop-row.invariant in
    elim c.if-key-kept.branch [
      | then-key-kept w ↦ elim w.if-names-key.branch [
        | then-names-key v ↦
            let own = get_or-set_same c.loop-row.names key c.loop-row.count 0 in_names in
            rw (w.count-is, v.count-is, w.blocks-is, w.names-is, v.names-is, own)
            (numbered_new at numbering w.if-key-kept.true (omega arith) in_names v.if-names-key.true)
        | else-names-key v ↦
            rw (w.count-is, v.count-is, w.blocks-is, w.names-is, v.names-is)
            (numbered_again at numbering w.if-key-kept.true (omega arith) v.if-names-key.false)
      ]
      | else-key-kept w ↦ rw (w.names-is, w.blocks-is, w.count-is) (numbered_kept at numbering w.if-key-kept.false)
    ]

pub returns-clause-numbers : goal.returns-clause-numbers
returns-clause-numbers c =
    let all : c.loop-row.row-index ≡ length c.args.members.now = omega arith in
    NumbersRows_end all c.loop-row.invariant c.requires.rows (λ k d h. let s = c.requires.keys k d h in omega arith)
    (omega arith) c.leading_key-kept.ensures.some c.leading_key-kept.ensures.half
