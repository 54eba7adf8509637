use Rattle.rx_spec.proofs.Prelude.{rules, ◌≡◌, ◌+◌, ◌-◌, ◌^◌, ◌<◌, ◌∙◌, ap, arith, common_steps, least_exponent}
use Rattle.rx_base.proofs.Classes.{least_exponent-next, least_exponent-here, alphabet_len-le}
use Rattle.rx_base.proofs.byte_classes.ByteClasses.stride2.Goals as goal
use Rattle.rx_base.proofs.byte_classes.ByteClasses.stride2.Goals.{In-loop-exponent}

-- the exponent is too small, and so it is below 9
too_small : (c : In-loop-exponent) → 2 ^ c.loop-exponent.exponent < c.alphabet_len-len.result
too_small c = grind (arith, common_steps)

below : (c : In-loop-exponent) → c.loop-exponent.exponent < 9
below c = search (rules, alphabet_len-le)

pub loop-exponent-smaller : goal.loop-exponent-smaller
loop-exponent-smaller c = omega (arith, below c)

pub loop-exponent-preserved : goal.loop-exponent-preserved
loop-exponent-preserved c =
    let len = c.alphabet_len-len.result in
    let k = c.loop-exponent.exponent in
    let one_less : 9 - k - 1 ≡ 9 - (k + 1) = omega arith in (
      omega (arith, below c),
      c.loop-exponent.invariant.1 ∙ least_exponent-next len k (9 - k) (too_small c) (omega (arith, below c))
          ∙ ap (λ n. least_exponent len (k + 1) n) one_less,
    )

pub returns : goal.returns
returns c = grind (arith, common_steps, least_exponent-here)
