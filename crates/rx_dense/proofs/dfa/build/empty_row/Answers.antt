use Rattle.std.proofs.lemmas.List.{take-replicate}
use Rattle.rx_dense.proofs.dfa.build.empty_row.Goals as goal

pub returns : goal.returns
returns c = take-replicate c.args.stride 512 0 c.requires
