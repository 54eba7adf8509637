use Rattle.rx_spec.proofs.Prelude.{◌++◌, ◌∷◌, [], ◌∙◌, ap, sym, arith, map-range_with_len_more}
use Rattle.rx_expr.specs.Expr.{literal_of}
use Rattle.rx_main.specs.Gen.{gen_literal, gen_patterns}
use Rattle.rx_main.proofs.generate.patterns.Goals as goal

pub patterns-preserved : goal.patterns-preserved
patterns-preserved c =
    let i = c.patterns.pattern in
    let expr = c.in-Ok.ensures.ok ∙ ap literal_of c.literal.ensures in
    c.in_ok-push-in-Ok.ensures.items ∙ ap (λ l. l ++ c.in-Ok.expr ∷ []) c.patterns.invariant
    ∙ ap (λ e. gen_patterns i ++ e ∷ []) expr
    ∙ sym (map-range_with_len_more (λ k. literal_of (gen_literal k)) 0 i i (omega arith))
