use Rattle.rx_spec.proofs.Prelude.{◌*◌, ◌^◌, ◌<◌, length, arith}
use Rattle.rx_dense.specs.Builder.{pattern_lists, slices_from}
use Rattle.rx_dense.proofs.PatternLists.{length-slices_from, map_len, patterns_are, shaped_patterns}
use Rattle.rx_dense.proofs.dfa.pattern_map.DFA+Vec+u32.set_pattern_map.Goals as goal

pub invariant_of-self : goal.invariant_of-self
invariant_of-self c =
    let lists = pattern_lists c.args.map.now in
    let few : length (slices_from 0 lists) < 2 * 2 ^ 32 =
    omega (arith, length-slices_from 0 lists, map_len c.args.map.now, c.in_ok-slices.ensures.few) in
    rw (c.in_ok-slices.ensures.value, c.in_ok-pattern_ids.ensures)
    (shaped_patterns _ lists c.in-Some.ensures.0 few c.self.invariant)

pub returns-clause-lists : goal.returns-clause-lists
returns-clause-lists c = λ i h.
    let lists = pattern_lists c.args.map.now in
    let there : i < length lists = omega (arith, map_len c.args.map.now) in
    rw (c.in_ok-slices.ensures.value, c.in_ok-pattern_ids.ensures) (patterns_are c.args.self.now lists i there)
