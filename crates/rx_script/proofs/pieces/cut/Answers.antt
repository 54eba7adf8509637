use Rattle.rx_spec.proofs.Prelude.{arith, sym, ◌+◌, common_steps, take_rest}
use Rattle.rx_script.proofs.Cut.{split_at, split_none, cut_at, cut_none}
use Rattle.rx_script.proofs.pieces.cut.Goals as goal

pub returns-in-Some-clause-parts : goal.returns-in-Some-clause-parts
returns-in-Some-clause-parts c = grind (arith, common_steps, cut_at)

pub returns-in-Some-clause-pieces : goal.returns-in-Some-clause-pieces
returns-in-Some-clause-pieces c =
    let text = c.args.text.now in
    rw (take_rest text (c.in-Some.at + 1)) (split_at c.args.separator text c.in-Some.at (sym c.in-Some.ensures))

pub returns-in-None-clause-parts : goal.returns-in-None-clause-parts
returns-in-None-clause-parts c = sym (cut_none c.args.separator c.args.text.now (sym c.in-None.ensures))

pub returns-in-None-clause-pieces : goal.returns-in-None-clause-pieces
returns-in-None-clause-pieces c = split_none c.args.separator c.args.text.now (sym c.in-None.ensures)
