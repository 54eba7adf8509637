use Rattle.rx_spec.proofs.Prelude.{◌/◌, ◌^◌, slice_index}
use Rattle.rx_dense.proofs.Renaming.{RenamedBelow}
use Rattle.rx_dense.proofs.dfa.rows.rename_rows.Given as goal

abbrev pub invariant-loop-row : goal.invariant-loop-row
invariant-loop-row l =
    RenamedBelow l.stride2 l.alphabet_len (λ id. slice_index l.new_ids (id / 2 ^ l.stride2)) l.fn.words l.words l.row
