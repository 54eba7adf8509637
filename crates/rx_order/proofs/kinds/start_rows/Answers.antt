use Rattle.rx_spec.proofs.Prelude.{common_steps, ◌≡◌, ◌∙◌, List, Bool, false, map, length, get_or, rules, replicate, ap}
use Rattle.rx_spec.proofs.Prelude.{subst, arith, All-from_get_or, get_or-replicate, length-replicate}
use Rattle.rx_dense.specs.Layouts.{IsRowId}
use Rattle.rx_dense.proofs.StartNumbers.{Entry, entry_ids}
use Rattle.rx_order.proofs.MarkedRows.{AreNoted, all_noted, id_row, none_noted, one_noted}
use Rattle.rx_order.proofs.kinds.start_rows.Goals as goal

pub loop-id-init : goal.loop-id-init
loop-id-init c =
    let items : c.in_ok-starts.starts.items ≡ replicate c.state_len.result false = search rules in
    let count = c.state_len.ensures.value in
    let starts = c.starts-id-items.ensures in
    rw (c.into_iter-id-iterator.ensures.into_iter_gives, starts.value)
    (rw (entry_ids c.args.dfa.now starts.are_starts)
    (none_noted c.args.dfa.now c.in_ok-starts.starts.items c.args.dfa.now.starts
    (ap length items ∙ length-replicate c.state_len.result false ∙ count)
    (λ row h.
    ap (λ (flags : List Bool). get_or flags row false) items
    ∙ get_or-replicate c.state_len.result row false false (omega arith))
    (All-from_get_or (IsRowId c.args.dfa.now) c.args.dfa.now.starts 0 starts.are_starts.start_ids)))

pub index_mut-requires : goal.index_mut-requires
index_mut-requires c =
    let noted = subst (λ left. AreNoted c.args.dfa.now c.loop-id.starts.items (map (λ
    (e : Entry). e.0) left) c.args.dfa.now.starts)
    c.in-Some.ensures.steps c.loop-id.invariant in
    rw (c.as_usize.ensures.value, c.stride2-stride2.ensures.value) (omega (arith, id_row noted, c.loop-id.starts.ok.0))

pub loop-id-preserved : goal.loop-id-preserved
loop-id-preserved c =
    let noted = subst (λ left. AreNoted c.args.dfa.now c.loop-id.starts.items (map (λ
    (e : Entry). e.0) left) c.args.dfa.now.starts)
    c.in-Some.ensures.steps c.loop-id.invariant in
    rw (c.as_usize.ensures.value, c.stride2-stride2.ensures.value) (one_noted noted)

pub returns-clause-rows : goal.returns-clause-rows
returns-clause-rows c = grind (arith, common_steps, all_noted)
