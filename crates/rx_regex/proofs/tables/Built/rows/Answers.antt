use Rattle.rx_spec.proofs.Prelude.{subst}
use Rattle.rx_regex.specs.Forms.{pair_of}
use Rattle.rx_regex.specs.Pairs.{AreTables}
use Rattle.rx_regex.specs.declared.tables.Tables.{Tables}
use Rattle.rx_regex.proofs.Counts.{have_rows}
use Rattle.rx_regex.proofs.tables.Built.rows.Goals as goal

pub returns-in-Dense : goal.returns-in-Dense
returns-in-Dense c p es tables =
    rw (
      c.state_len.ensures.value,
      c.state_len-in-Dense.ensures.value,
      c.forward.ensures.table,
      c.reverse.ensures.table,
    )
    (have_rows (subst (λ (t : Tables). AreTables p es (pair_of t)) c.in-Dense.is tables))

pub returns-in-Sparse : goal.returns-in-Sparse
returns-in-Sparse c p es tables =
    rw (
      c.state_len-in-Sparse.ensures,
      c.state_len-in-Sparse-2.ensures,
      c.forward-in-Sparse.ensures.table,
      c.reverse-in-Sparse.ensures.table,
    )
    (have_rows (subst (λ (t : Tables). AreTables p es (pair_of t)) c.in-Sparse.is tables))
