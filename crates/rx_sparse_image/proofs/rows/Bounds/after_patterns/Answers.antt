use Rattle.rx_spec.proofs.Prelude.{common_steps, ◌≡◌, Ok, ap, sym, ◌∙◌, arith, rules, err_from_is_err_and}
use Rattle.rx_sparse_image.specs.Walks.{tested_count, tested_pattern}
use Rattle.rx_sparse_image.proofs.Passes.{patterns_fail, patterns_pass}
use Rattle.rx_sparse_image.proofs.rows.Bounds.after_patterns.Goals as goal

pub returns-in_err-test_pattern : goal.returns-in_err-test_pattern
returns-in_err-test_pattern c =
    let some : tested_count c.in_ok-count.count ≡ Ok c.in_ok-count.count = search rules in
    let p = err_from_is_err_and c.from_residual-in_err-test_pattern.result
    c.from_residual-in_err-test_pattern.ensures.1 in
    rw (p.1, p.2)
    (patterns_fail c.args.self.now c.in_ok-count.count c.args.bytes.now c.in_ok-count.rest.now c.in_ok-ids.ids.now
    c.in_ok-ids.rest.now some c.in_ok-count.ensures c.in_ok-ids.ensures.read c.each.i _
    (omega arith) c.each.invariant
    (ap (tested_pattern c.args.self.now) (sym c.word_at.ensures) ∙ c.in_err-test_pattern.ensures))

pub returns : goal.returns
returns c = grind (arith, common_steps, patterns_pass)
