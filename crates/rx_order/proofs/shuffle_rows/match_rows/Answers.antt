use Rattle.rx_spec.proofs.Prelude.{◌≡◌, ◌∙◌, List, Bool, false, length, get_or, rules, replicate, ap, subst, arith}
use Rattle.rx_spec.proofs.Prelude.{keys, get_or-replicate, length-replicate}
use Rattle.rx_dense.specs.Layouts.{IsRowId}
use Rattle.rx_dense.proofs.MatchMaps.{has_key, key_ids}
use Rattle.rx_order.proofs.MarkedRows.{AreNoted, all_noted, id_row, none_noted, one_noted}
use Rattle.rx_order.proofs.shuffle_rows.match_rows.Goals as goal

pub loop-id-init : goal.loop-id-init
loop-id-init c =
    let items : c.in_ok-rows.rows.items ≡ replicate c.state_len.result false = search rules in
    let count = c.state_len.ensures.value in
    rw (c.into_iter-id-iterator.ensures.into_iter_gives, c.keys-id-items.ensures.rest)
    (none_noted c.args.dfa.now c.in_ok-rows.rows.items (keys c.args.matches.now)
    (ap length items ∙ length-replicate c.state_len.result false ∙ count)
    (λ row h.
    ap (λ (flags : List Bool). get_or flags row false) items
    ∙ get_or-replicate c.state_len.result row false false (omega arith))
    (key_ids (IsRowId c.args.dfa.now) c.args.matches.now.entries (λ k v e. (c.requires.rows k v e).0)))

pub index_mut-requires : goal.index_mut-requires
index_mut-requires c =
    let noted = subst (λ left. AreNoted c.args.dfa.now c.loop-id.rows.items left (keys c.args.matches.now))
    c.in-Some.ensures.steps c.loop-id.invariant in
    rw (c.as_usize.ensures.value, c.stride2-stride2.ensures.value) (omega (arith, id_row noted, c.loop-id.rows.ok.0))

pub loop-id-preserved : goal.loop-id-preserved
loop-id-preserved c =
    let noted = subst (λ left. AreNoted c.args.dfa.now c.loop-id.rows.items left (keys c.args.matches.now))
    c.in-Some.ensures.steps c.loop-id.invariant in
    rw (c.as_usize.ensures.value, c.stride2-stride2.ensures.value) (one_noted noted)

pub returns-clause-rows : goal.returns-clause-rows
returns-clause-rows c = search (rules, all_noted, has_key)
