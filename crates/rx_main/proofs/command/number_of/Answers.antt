use Rattle.rx_spec.proofs.Prelude.{common_steps, arith}
use Rattle.rx_main.proofs.Numerals.{no_number, number_within}
use Rattle.rx_main.proofs.command.number_of.Goals as goal

pub returns-in-Some : goal.returns-in-Some
returns-in-Some c =
    number_within c.args.word.now c.args.least c.args.most c.in-Some.number (omega (arith, c.requires))
    c.in-Some.ensures c.within.result c.within.ensures

pub returns-in-None : goal.returns-in-None
returns-in-None c = grind (arith, common_steps, no_number)
