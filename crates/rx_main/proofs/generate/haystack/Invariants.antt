use Rattle.rx_spec.proofs.Prelude.{◌≡◌, flat_map, range_with_len}
use Rattle.rx_main.specs.Gen.{gen_piece}
use Rattle.rx_main.proofs.generate.haystack.Given as goal

abbrev pub invariant-rounds : goal.invariant-rounds
invariant-rounds l = l.bytes.items ≡ flat_map (gen_piece l.count) (range_with_len 0 l.round)
