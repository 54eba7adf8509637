use Rattle.rx_spec.proofs.Prelude.{◌<◌, length, slice_index, ap, sym, ◌∙◌, subst, arith}
use Rattle.rx_sparse.specs.Rows.{Row}
use Rattle.rx_sparse.proofs.DecodedRows.{pattern_is, pattern_place}
use Rattle.rx_sparse.proofs.state.State.pattern.Goals as goal

pub overflow_add-i : goal.overflow_add-i
overflow_add-i c =
    let s = c.self.inside in
    let h = subst (λ (r : Row). c.args.i < length r.patterns) (sym c.self.view_is) c.requires in
    omega (arith, pattern_place s.order s.rest.now c.args.i s.is_match h, c.self.invariant.needles)

pub word_at-requires : goal.word_at-requires
word_at-requires c =
    let s = c.self.inside in
    let h = subst (λ (r : Row). c.args.i < length r.patterns) (sym c.self.view_is) c.requires in
    omega (arith, pattern_place s.order s.rest.now c.args.i s.is_match h, c.self.invariant.needles)

pub must-requires : goal.must-requires
must-requires c =
    let s = c.self.inside in
    let h = subst (λ (r : Row). c.args.i < length r.patterns) (sym c.self.view_is) c.requires in
    omega (
      arith,
      c.word_at.ensures,
      pattern_is s.order s.rest.now c.args.i s.is_match h,
      c.self.invariant.patterns c.args.i h,
    )

pub returns : goal.returns
returns c =
    let s = c.self.inside in
    let h = subst (λ (r : Row). c.args.i < length r.patterns) (sym c.self.view_is) c.requires in
    c.must.ensures ∙ c.word_at.ensures ∙ pattern_is s.order s.rest.now c.args.i s.is_match h
    ∙ ap (λ (r : Row). slice_index r.patterns c.args.i) c.self.view_is
