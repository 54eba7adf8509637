use Rattle.rx_spec.proofs.Prelude.{◌<◌, refl, arith}
use Rattle.rx_script.specs.declared.tokens.TheConstants.{HEX_VALUES}
use Rattle.rx_script.proofs.Digits.{value_at}
use Rattle.rx_script.proofs.tokens.hex_value.Goals as goal

pub returns : goal.returns
returns c =
    let within : c.args.digit < 256 = omega arith in
    value_at HEX_VALUES c.args.digit refl within
