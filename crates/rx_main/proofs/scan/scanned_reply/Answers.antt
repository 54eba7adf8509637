use Rattle.rx_spec.proofs.Prelude.{common_steps, ◌++◌, ◌∷◌, [], ◌∙◌, ap, arith, flat_map_more, same_Some}
use Rattle.rx_scan.specs.Tokens.{tokens}
use Rattle.rx_main.specs.Scan.{token_line}
use Rattle.rx_main.proofs.TokenLines.{all_told, count_more, end_known, fewer, lines_count_more, told_more}
use Rattle.rx_main.proofs.scan.scanned_reply.Goals as goal

pub overflow_add-count : goal.overflow_add-count
overflow_add-count g c = grind (arith, common_steps, lines_count_more)

pub tokens-preserved : goal.tokens-preserved
tokens-preserved g c =
    let told = c.tokens.invariant.told in
    let token = c.in-Some.token in
    let step = c.in-Some.ensures.steps in
    record {
      told = told ++ token ∷ [];
      whole = told_more told token step.first c.tokens.invariant.whole;
      end = step.end ∙ c.tokens.invariant.end;
      lines =
          c.in_ok-push_token.ensures ∙ ap (λ l. l ++ token_line token) c.tokens.invariant.lines
          ∙ flat_map_more token_line [] told token;
      count = count_more told token c.tokens.invariant.count;
    }

pub tokens-smaller : goal.tokens-smaller
tokens-smaller g c = fewer c.in-Some.token c.in-Some.ensures.steps.first

pub unreachable-requires : goal.unreachable-requires
unreachable-requires g c = grind (arith, common_steps, end_known)

pub returns : goal.returns
returns g c = grind (arith, common_steps, end_known, same_Some, all_told)
