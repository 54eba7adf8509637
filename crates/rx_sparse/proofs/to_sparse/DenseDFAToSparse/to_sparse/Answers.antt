use Rattle.rx_spec.proofs.Prelude.{arith, common_steps}
use Rattle.rx_dense.specs.Layouts.{IsShaped}
use Rattle.rx_dense.specs.Layouts as dense
use Rattle.rx_sparse.proofs.SparseBytes.{parts_fit, stored_is}
use Rattle.rx_sparse.proofs.SparseTables.{same_table, sparse_sound}
use Rattle.rx_sparse.proofs.to_sparse.DenseDFAToSparse.to_sparse.Goals as goal

pub from_parts-requires : goal.from_parts-requires
from_parts-requires g c =
    let l = c.args.self.now in
    let shaped : IsShaped l = record {
      rows = c.in_ok-offsets.ensures.offsets.rows;
      starts = c.in_ok-starts.ensures.starts;
      lists = c.parts.ensures.lists;
    } in
    rw c.parts.ensures.parts
    (parts_fit l shaped c.requires.sound c.requires.special c.in_ok-offsets.ensures.offsets.fits
    c.in_ok-rows.rows.items c.in_ok-starts.starts.items c.in_ok-rows.ensures c.in_ok-starts.ensures.bytes)

pub returns-clause-table : goal.returns-clause-table
returns-clause-table g c = grind (arith, common_steps, stored_is)

pub returns-clause-sound : goal.returns-clause-sound
returns-clause-sound g c = grind (arith, common_steps, stored_is, sparse_sound)

pub returns-clause-same : goal.returns-clause-same
returns-clause-same g c = grind (arith, common_steps, stored_is, same_table)
