use Rattle.rx_spec.proofs.Prelude.{◌≡◌, ◌<◌, ◌^◌, drop}
use Rattle.rx_script.specs.Tokens.{number_from}
use Rattle.rx_script.proofs.tokens.digits.Given as goal

abbrev pub invariant-digits : goal.invariant-digits
invariant-digits l =
    record { small : l.value < 2 ^ 32; same : number_from l.value (drop l.byte-index l.word) ≡ number_from 0 l.word }
