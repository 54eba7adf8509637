use Rattle.rx_spec.proofs.Prelude.{◌≡◌, ℕ, ◌/◌, ◌^◌, ◌<◌, ◌∙◌, length, slice_index, arith, ap, get_or_default}
use Rattle.rx_spec.proofs.Prelude.{All-get_or}
use Rattle.std.proofs.lemmas.List.{places}
use Rattle.std.proofs.lemmas.List.Edits.{map_over_more}
use Rattle.rx_dense.proofs.dfa.rows.rename.Goals as goal

pub loop-id-preserved : goal.loop-id-preserved
loop-id-preserved c =
    let i = c.loop-id.id-index in
    let s = c.args.stride2 in
    let new_ids = c.args.new_ids.now in
    let id = slice_index c.loop-id.ids i in
    let old : slice_index c.loop-id.ids i ≡ slice_index c.args.ids.now i =
    ap (λ ids. slice_index ids i) c.loop-id.invariant ∙ grind (arith, places) in
    let row : slice_index c.loop-id.ids i / 2 ^ s < length new_ids =
    rw old (All-get_or (λ id. id / 2 ^ s < length new_ids) c.args.ids.now i 0 (omega arith) c.requires.rows) in
    let value : c.as_u32.result ≡ slice_index new_ids (id / 2 ^ s) =
    c.as_u32.ensures.value ∙ c.index-new_ids-id.is
    ∙ get_or_default new_ids (id / 2 ^ s) c.index-new_ids-id.result 0 row in
    rw value
    (map_over_more (λ (id : ℕ). slice_index new_ids (id / 2 ^ s)) c.args.ids.now c.loop-id.ids i id (omega arith)
    c.loop-id.invariant (get_or_default c.loop-id.ids i 0 id (omega arith)))
