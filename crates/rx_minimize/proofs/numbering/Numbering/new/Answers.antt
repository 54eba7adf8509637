use Rattle.rx_spec.proofs.Prelude.{common_steps, ◌≡◌, ◌≢◌, ◌<◌, ◌∙◌, ℕ, List, length, slice_index, slice_set, ap, arith}
use Rattle.rx_spec.proofs.Prelude.{Vec, Global, get_or_default, get_or-set_same}
use Rattle.rx_minimize.proofs.Prelude.{length-set}
use Rattle.rx_minimize.proofs.Renumbered.{known_named, new_named, all_named}
use Rattle.rx_minimize.proofs.numbering.Numbering.new.Goals.{then-index-unnamed+in_ok-push, else-index-unnamed}
use Rattle.rx_minimize.proofs.numbering.Numbering.new.Goals as goal

pub loop-row-preserved : goal.loop-row-preserved
loop-row-preserved c =
    let blocks : List ℕ = c.args.blocks.now in
    let row : ℕ = c.loop-row.row in
    let names : List ℕ = c.loop-row.names.items in
    let h = c.loop-row.invariant in
    let within : row < length blocks = omega arith in
    let block : ℕ = slice_index blocks row in
    let fits : block < length blocks = c.requires.below row 0 within in
    let in_names : block < length names = omega (arith, h.names_len) in
    let tested : c.index.result.now ≡ slice_index names block =
    c.index.ensures ∙ get_or_default names block c.index.result.now 0 in_names in
    elim c.if-index-unnamed.branch [
      | then-index-unnamed+in_ok-push w ↦
          let kept : c.if-index-unnamed.names.items ≡ slice_set names block w.len.result =
          ap (λ (v : Vec ℕ Global). v.items) w.names-is in
          let len : w.len.result ≡ length c.loop-row.firsts.items =
          omega (arith, w.len.ensures, c.loop-row.firsts.ok.0) in
          let in_new : block < length c.if-index-unnamed.names.items =
          omega (arith, ap length kept, length-set names block w.len.result) in
          let last : c.index-in-loop-row.result.now ≡ length c.loop-row.firsts.items =
          grind (
            arith,
            common_steps,
            c.index-in-loop-row.ensures,
            get_or_default,
            c.if-index-unnamed.names.items,
            c.index-in-loop-row.result.now,
            get_or-set_same,
            w.len.result,
          ) in
          let unknown : slice_index names block ≡ length blocks = omega (arith, tested, w.if-index-unnamed.true) in
          grind (
            arith,
            common_steps,
            w.names-is,
            w.firsts-is,
            w.in_ok-push.ensures.items,
            c.in_ok-push-2.ensures.items,
            new_named,
          )
      | else-index-unnamed w ↦
          let kept : c.if-index-unnamed.names.items ≡ names = ap (λ (v : Vec ℕ Global). v.items) w.names-is in
          let in_new : block < length c.if-index-unnamed.names.items = omega (arith, ap length kept) in
          let last : c.index-in-loop-row.result.now ≡ slice_index names block =
          c.index-in-loop-row.ensures
          ∙ get_or_default c.if-index-unnamed.names.items block c.index-in-loop-row.result.now 0 in_new
          ∙ ap (λ xs. slice_index xs block) kept in
          let known : slice_index names block ≢ length blocks =
          (λ e. w.if-index-unnamed.false (tested ∙ e)) in
          rw (w.names-is, w.firsts-is, c.in_ok-push-2.ensures.items, last) (known_named h within fits known)
    ]

pub returns : goal.returns
returns c = grind (arith, common_steps, all_named)
