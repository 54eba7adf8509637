-- A sparse table that is built can be written and read again.
use Rattle.rx_spec.proofs.Prelude.{◌^◌, ◌<◌, sym, ap, subst, Nfa}
use Rattle.rx_build.specs.Settings.{Settled}
use Rattle.rx_sparse_build.proofs.BuiltTables as dense
use Rattle.rx_sparse_build.proofs.Whole as finished
use Rattle.rx_sparse.specs.Layouts.{Stored}
use Rattle.rx_sparse_build.specs.Built.{IsSparse}
use Rattle.rx_sparse_image.specs.Tested.{IsWhole}
use Rattle.rx_sparse_build.proofs.SparseWhole.{whole}

pub built_whole : (s : Settled) (nfa : Nfa) (t : Stored) → s.quit < 2 ^ 256 → IsSparse s nfa t → IsWhole t.layout
built_whole s nfa t few is =
    subst IsWhole (sym (ap (λ (x : Stored). x.layout) is.sparse))
    (whole is.dense (dense.built_whole s nfa is.dense few is.shaped is.built) is.short)
