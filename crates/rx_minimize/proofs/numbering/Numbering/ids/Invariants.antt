use Rattle.rx_spec.proofs.Prelude.{◌≡◌, ◌*◌, ◌^◌, map, take}
use Rattle.rx_minimize.proofs.numbering.Numbering.ids.Given as goal

abbrev pub invariant-loop-number : goal.invariant-loop-number
invariant-loop-number l =
    l.ids.items ≡ map (λ number. number * 2 ^ l.stride2) (take l.number-index l.self.numbers.items)
