use Rattle.rx_spec.proofs.Prelude.{◌≡◌, ◌∙◌, ⊎_elim, nat_le, slice_index, slice_set, map, refl, sym, subst, arith}
use Rattle.rx_spec.proofs.Prelude.{rules, IsPermutation, cases_eq, get_or-set_same, get_or-set_other}
use Rattle.rx_order.proofs.Prelude.{IsNonDecreasingBy-from_sort_by_key, IsPartitionPoint-from_clause, length-set}
use Rattle.rx_order.proofs.ByKind.{IsEnd, by_kind, is_end, key, ranked}
use Rattle.rx_order.proofs.order.Order.new.Goals as goal

pub loop-kind-init : goal.loop-kind-init
loop-kind-init c =
    let sort = c.sort_unstable_by_key.ensures in
    record {
      sorted = record {
        permutation =
            subst (λ rows. IsPermutation rows c.sort_unstable_by_key.new.self.items) c.in_ok-sorted.ensures
            sort.permutation;
        rises = IsNonDecreasingBy-from_sort_by_key key _ sort.sorted (λ a r q k. search rules);
        few = λ row. omega (arith, c.type_inv.ranks row);
      };
      count = refl;
      ends = λ kind h. absurd (omega (arith, h));
    }

pub loop-kind-preserved : goal.loop-kind-preserved
loop-kind-preserved c =
    let are = c.loop-kind.invariant in
    let kind = c.loop-kind.kind-counter in
    let end = c.partition_point.result in
    let sorted = c.sort_unstable_by_key.new.self.items in
    let within = rw c.deref-in-loop-kind.ensures.value at c.partition_point.ensures.bound in
    let parted = rw c.deref-in-loop-kind.ensures.value at c.partition_point.ensures.partitioned in
    record {
      sorted = are.sorted;
      count = length-set c.loop-kind.ends kind end ∙ are.count;
      ends = λ k h.
          ⊎_elim
          (λ (e : k ≡ kind).
          subst (λ k. IsEnd sorted k (slice_index (slice_set c.loop-kind.ends kind end) k)) (sym e)
          (rw (get_or-set_same c.loop-kind.ends kind end 0 (omega (arith, are.count)))
          (is_end are.sorted kind end within
          (λ may. IsPartitionPoint-from_clause (λ row. nat_le row.kind kind) sorted end parted may
          (λ a r q k. search rules)))))
          (λ (ne : k ≡ kind → ⊥).
          rw (get_or-set_other c.loop-kind.ends kind k end 0 ne) (are.ends k (omega arith)))
          (cases_eq k kind);
    }

pub returns : goal.returns
returns c =
    let are = c.loop-kind.invariant in
    let sorted = c.sort_unstable_by_key.new.self.items in
    let rows : c.in_ok-rows.rows.items ≡ map (λ row. row.number) sorted = search rules in
    record {
      by_kind = rw rows (by_kind are.sorted c.loop-kind.ends are.count (λ kind h. are.ends kind (omega arith)));
      ranked = rw rows (ranked are.sorted);
    }
