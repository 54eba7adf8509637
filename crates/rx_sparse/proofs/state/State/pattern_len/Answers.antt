use Rattle.rx_spec.proofs.Prelude.{length, ap, ◌∙◌}
use Rattle.rx_sparse.specs.Rows.{Row}
use Rattle.rx_sparse.proofs.DecodedRows.{pattern_count}
use Rattle.rx_sparse.proofs.state.State.pattern_len.Goals as goal

pub returns-then-self : goal.returns-then-self
returns-then-self c =
    let s = c.self.inside in
    c.word_at.ensures ∙ pattern_count s.order s.is_match s.rest.now c.if-self.true
    ∙ ap (λ (r : Row). length r.patterns) c.self.view_is
