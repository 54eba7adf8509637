use Rattle.rx_base.specs.Search.{mode_of}
use Rattle.rx_sparse.proofs.SparseBytes.{universal_none, universal_some}
use Rattle.rx_sparse.proofs.to_sparse.universal.Goals as goal

pub returns-in-None : goal.returns-in-None
returns-in-None g c =
    universal_none c.args.dfa.now c.args.offsets.now c.requires (mode_of c.args.mode) c.in-None.ensures.row

pub returns-in-Some : goal.returns-in-Some
returns-in-Some g c =
    universal_some c.args.dfa.now c.args.offsets.now c.requires (mode_of c.args.mode) c.in-Some.id c.offset.result
    c.in-Some.ensures.is_id c.in-Some.ensures.row c.offset.ensures
