use Rattle.rx_spec.proofs.Prelude.{◌&&◌, not, ap, sym, ◌∙◌}
use Rattle.rx_dense.specs.Specials.{is_match_id}
use Rattle.rx_sparse.proofs.RowKinds.{match_kind, quit_kind}
use Rattle.rx_sparse.proofs.dfa.automaton.DFAAutomaton.is_quit_state.Goals as goal

pub returns-then-is_quit_id : goal.returns-then-is_quit_id
returns-then-is_quit_id g c =
    let l = c.args.self.now.layout in
    let quit = sym (rw c.special.ensures at c.is_quit_id.ensures) ∙ c.if-is_quit_id.true in
    ap not (c.is_match_state.ensures ∙ sym (match_kind l c.args.id c.requires))
    ∙ sym (ap (λ b. b && not (is_match_id l.special c.args.id)) quit)
    ∙ quit_kind l c.args.id c.requires

pub returns-else-is_quit_id : goal.returns-else-is_quit_id
returns-else-is_quit_id g c =
    let quit = sym (rw c.special.ensures at c.is_quit_id.ensures) ∙ c.if-is_quit_id.false in
    c.if-is_quit_id.false ∙ sym (ap (λ b. b && not (is_match_id c.args.self.now.layout.special c.args.id)) quit)
    ∙ quit_kind c.args.self.now.layout c.args.id c.requires
