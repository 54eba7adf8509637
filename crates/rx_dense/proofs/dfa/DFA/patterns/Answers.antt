use Rattle.rx_spec.proofs.Prelude.{common_steps, ℕ, ◌<◌, ◌≤◌, List, length, slice_index, subst, sym, arith, max_id}
use Rattle.rx_dense.specs.Layouts.{place_in_range}
use Rattle.rx_dense.proofs.RowKinds.{match_first, match_place, match_patterns, pattern_ids}
use Rattle.rx_dense.proofs.Rows.{part_is}
use Rattle.rx_dense.proofs.dfa.DFA.patterns.Goals as goal

pub place_in_range-place-requires : goal.place_in_range-place-requires
place_in_range-place-requires g c = grind (arith, common_steps, match_first)

pub bounds-slices-place : goal.bounds-slices-place
bounds-slices-place g c = grind (arith, common_steps, match_place)

pub bounds-slices-place-2 : goal.bounds-slices-place-2
bounds-slices-place-2 g c = grind (arith, common_steps, match_place)

pub slice_bounds-result-end : goal.slice_bounds-result-end
slice_bounds-result-end g c =
    let l = c.args.self.now in
    let within = match_place l c.args.id c.requires.is_id c.requires.sound c.requires.is_match in
    let fits = c.slices-slices.ensures.lists.within (place_in_range l l.special.min_match c.args.id) within in
    rw (c.place_in_range-place.ensures, c.special.ensures, c.slices-slices.ensures.value, c.pattern_ids.ensures) fits

pub returns-clause-value : goal.returns-clause-value
returns-clause-value g c = grind (arith, common_steps, part_is, match_patterns)

pub returns-clause-are_ids : goal.returns-clause-are_ids
returns-clause-are_ids g c =
    subst
    (λ (ids : List ℕ). (k : ℕ) → k < length ids → slice_index ids k ≤ max_id)
    (sym (returns-clause-value g c))
    (pattern_ids c.args.self.now c.args.id c.requires.is_id c.requires.sound c.slices-slices.ensures.lists
    c.requires.is_match)
