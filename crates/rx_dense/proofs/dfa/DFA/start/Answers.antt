use Rattle.rx_base.specs.Search.{mode_of}
use Rattle.rx_dense.proofs.Rows.{id_few, start_is_row}
use Rattle.rx_dense.proofs.dfa.DFA.start.Goals as goal

pub must-requires : goal.must-requires
must-requires g c =
    rw (c.start_ids-starts.ensures.value, c.mode_place-first.ensures.value, c.context_number.ensures.value)
    (id_few c.args.self.now c.start_ids-starts.ensures.rows _
    (start_is_row c.args.self.now c.start_ids-starts.ensures.starts (mode_of c.args.mode) c.args.start
    (rw (c.start_ids-starts.ensures.value, c.mode_place-first.ensures.value) at c.if-first-starts.false)))

pub returns-clause-is_row : goal.returns-clause-is_row
returns-clause-is_row g c =
    rw (
      c.must.ensures,
      c.start_ids-starts.ensures.value,
      c.mode_place-first.ensures.value,
      c.context_number.ensures.value,
    )
    (start_is_row c.args.self.now c.start_ids-starts.ensures.starts (mode_of c.args.mode) c.args.start
    (rw (c.start_ids-starts.ensures.value, c.mode_place-first.ensures.value) at c.if-first-starts.false))
