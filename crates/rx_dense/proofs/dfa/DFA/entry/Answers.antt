use Rattle.rx_spec.proofs.Prelude.{arith, ◌≡◌, ◌+◌, ◌∙◌, slice_index, common_steps}
use Rattle.rx_dense.proofs.Rows.{entry_within, entry_few, entry_id, entry_row, from_column_has, from_column_is}
use Rattle.rx_dense.proofs.dfa.DFA.entry.Goals as goal

pub bounds-words-as_usize : goal.bounds-words-as_usize
bounds-words-as_usize g c =
    let l = c.args.self.now in
    let within = entry_within l c.words.ensures.rows c.args.id c.args.column c.requires.is_id c.requires.within in
    rw (c.words.ensures.value, c.as_usize.ensures.value) (from_column_has l.words c.args.column c.args.id within)

pub must-requires : goal.must-requires
must-requires g c =
    let l = c.args.self.now in
    let within = entry_within l c.words.ensures.rows c.args.id c.args.column c.requires.is_id c.requires.within in
    grind (arith, common_steps, from_column_is, entry_few)

pub returns : goal.returns
returns g c =
    let l = c.args.self.now in
    let within = entry_within l c.words.ensures.rows c.args.id c.args.column c.requires.is_id c.requires.within in
    let value : c.must.result ≡ slice_index l.words (c.args.id + c.args.column) =
    (rw (c.words.ensures.value, c.as_usize.ensures.value) at c.must.ensures)
    ∙ from_column_is l.words c.args.column c.args.id within in
    grind (arith, common_steps, entry_id, entry_row)
