use Rattle.rx_spec.proofs.Prelude.{arith, ap, ◌∙◌, ◌≤◌, ℕ, subst, rules, common_steps, max_id}
use Rattle.rx_sparse.specs.Sparse.{IsTooLong, sparse_len}
use Rattle.rx_sparse.proofs.SparseBytes.{all_noted, len_noted, none_noted, noted_few, noted_id, one_noted}
use Rattle.rx_sparse.proofs.SparseBytes.{refused_whole, too_long}
use Rattle.rx_sparse.proofs.to_sparse.row_offsets.Goals as goal

pub loop-row-init : goal.loop-row-init
loop-row-init g c = grind (arith, common_steps, none_noted)

pub add_offset-requires-clause-is_id : goal.add_offset-requires-clause-is_id
add_offset-requires-clause-is_id g c = noted_id c.loop-row.invariant c.in-Some.ensures.steps

pub add_offset-requires-clause-few : goal.add_offset-requires-clause-few
add_offset-requires-clause-few g c = grind (arith, common_steps, noted_few)

pub add_offset-requires-clause-at : goal.add_offset-requires-clause-at
add_offset-requires-clause-at g c = c.loop-row.invariant.few

pub loop-row-preserved : goal.loop-row-preserved
loop-row-preserved g c =
    one_noted c.loop-row.invariant c.in-Some.ensures.steps c.in_ok-len.ensures.ids c.in_ok-len.ensures.end
    c.in_ok-len.ensures.fits

pub returns-clause-offsets : goal.returns-clause-offsets
returns-clause-offsets g c = record {
  ids = ap (λ v. v.items) c.new.ensures.ids ∙ all_noted c.loop-row.invariant (c.in-None.ensures.steps).0;
  stride2 = c.new.ensures.stride2 ∙ c.stride2.ensures.value;
  rows = c.states-row-items.ensures.are_rows;
  fits =
      subst (λ (n : ℕ). n ≤ max_id) (len_noted c.loop-row.invariant (c.in-None.ensures.steps).0)
      c.loop-row.invariant.few;
}

pub returns-clause-len : goal.returns-clause-len
returns-clause-len g c = len_noted c.loop-row.invariant (c.in-None.ensures.steps).0

pub returns-clause-fits : goal.returns-clause-fits
returns-clause-fits g c =
    subst (λ (n : ℕ). n ≤ max_id) (len_noted c.loop-row.invariant (c.in-None.ensures.steps).0) c.loop-row.invariant.few

pub returns-in_err-len-clause-refused : goal.returns-in_err-len-clause-refused
returns-in_err-len-clause-refused g c =
    let too_many : IsTooLong (sparse_len c.args.dfa.now) c.in_err-len.field-0.0.kind =
    refused_whole (too_long c.loop-row.invariant c.in-Some.ensures.steps) _ c.in_err-len.ensures.refused in
    search rules
