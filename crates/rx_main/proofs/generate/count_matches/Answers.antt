use Rattle.rx_spec.proofs.Prelude.{common_steps, ◌≡◌, ◌+◌, ◌≤◌, ◌++◌, ◌∷◌, [], ◌∙◌, List, map, Ok, ap, sym, append-nil}
use Rattle.rx_spec.proofs.Prelude.{arith, length-append, Match}
use Rattle.std.proofs.lemmas.List.Sums.{sum_by_push}
use Rattle.rx_main.proofs.Matches.{Item, as_item, told_more}
use Rattle.rx_main.proofs.Generated.{gen_all, gen_few, gen_given, gen_items, gen_no_error, haystack_short}
use Rattle.rx_main.proofs.generate.count_matches.Goals as goal

pub matches-init : goal.matches-init
matches-init c = grind (arith, common_steps, gen_given)

pub unreachable-requires : goal.unreachable-requires
unreachable-requires c = grind (arith, common_steps, gen_no_error, as_item)

pub overflow_add-matches : goal.overflow_add-matches
overflow_add-matches c = grind (arith, common_steps, gen_few, haystack_short)

pub overflow_add-sum : goal.overflow_add-sum
overflow_add-sum c = grind (arith, common_steps, gen_few, haystack_short)

pub matches-preserved : goal.matches-preserved
matches-preserved c =
    let told = c.matches.invariant.told in
    let found = c.in-Ok.found in
    let rest = c.next.new.self in
    let number = c.matches.invariant.number in
    let total = c.matches.invariant.total in
    let small = c.matches.invariant.small in
    let as_number : c.from.result ≡ c.as_u32.result = c.from.ensures in
    let pattern : c.as_u32.result ≡ found.pattern = c.as_u32.ensures.value ∙ c.pattern.ensures in
    let bound : c.as_u32.result ≤ 2147483646 = c.as_u32.ensures.bound in
    let longer = length-append told (found ∷ []) in
    let larger = sum_by_push (λ (m : Match). m.pattern) told found in
    let left : c.matches.item-iterator ≡ Ok found ∷ rest =
    c.in-Some.ensures.steps ∙ ap (λ (item : Item). item ∷ rest) c.in-Ok.is in
    record {
      told = told ++ found ∷ [];
      whole =
          told_more told found rest ∙ ap (λ (items : List Item). map as_item told ++ items) (sym left)
          ∙ c.matches.invariant.whole;
      number = omega arith;
      total = omega arith;
      small = omega arith;
    }

pub returns : goal.returns
returns c = grind (arith, common_steps, as_item, gen_items, append-nil, gen_all)
