use Rattle.rx_refine.proofs.Prelude.{subst, sym, ◌<◌}
use Rattle.rx_refine.proofs.TableColumns.{group_of_row}
use Rattle.rx_refine.proofs.lists.Incoming.count.Goals as goal

pub rows_of-requires : goal.rows_of-requires
rows_of-requires g c =
    group_of_row c.self.invariant
    (subst (λ m. c.args.row < m.rows) (sym c.self.view_is) c.requires.row)
    (subst (λ m. c.args.unit < m.units) (sym c.self.view_is) c.requires.unit)
    c.index.result.now c.index.ensures
