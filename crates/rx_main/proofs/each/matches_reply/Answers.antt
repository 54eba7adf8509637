use Rattle.rx_spec.proofs.Prelude.{common_steps, ◌≡◌, ◌++◌, ◌∷◌, [], ◌∙◌, List, length, map, Ok, Err, ap, sym}
use Rattle.rx_spec.proofs.Prelude.{append-nil, eqb-true, arith, eqb-false, flat_map_more, nil_from_length, IfOk-weaker}
use Rattle.rx_spec.proofs.Prelude.{string_bytes, iterate}
use Rattle.rx_plan.specs.Plans.{outcome}
use Rattle.std.specs.String.{string_len}
use Rattle.rx_base.specs.Input.{query_of}
use Rattle.rx_main.specs.Lines.{error_reply, match_line}
use Rattle.rx_main.proofs.Matches.{Item, as_item, failed_reply, matches_told, none_reply, told_more}
use Rattle.rx_main.proofs.each.matches_reply.Goals as goal

pub matches-preserved : goal.matches-preserved
matches-preserved c =
    let told = c.matches.invariant.told in
    let found = c.in-Ok.found in
    let rest = c.next.new.self in
    let left : c.matches.item-iterator ≡ Ok found ∷ rest =
    c.in-Some.ensures.steps ∙ ap (λ (item : Item). item ∷ rest) c.in-Ok.is in
    record {
      told = told ++ found ∷ [];
      whole =
          told_more told found rest ∙ ap (λ (items : List Item). map as_item told ++ items) (sym left)
          ∙ c.matches.invariant.whole;
      lines =
          c.in_ok-push_match-in-Ok.ensures ∙ ap (λ l. l ++ match_line found) c.matches.invariant.lines
          ∙ flat_map_more match_line [] told found;
    }

pub returns-in-Err : goal.returns-in-Err
returns-in-Err c =
    let told = c.matches.invariant.told in
    let error = c.in-Err.error in
    let rest = c.next.new.self in
    let first = c.into_iter-item-iterator.result in
    let same : first ≡ c.find_iter-item-items.result = cc in
    let left : c.matches.item-iterator ≡ Err error ∷ rest =
    c.in-Some.ensures.steps ∙ ap (λ (item : Item). item ∷ rest) c.in-Err.is in
    let whole : map as_item told ++ Err error ∷ rest ≡ first =
    ap (λ (items : List Item). map as_item told ++ items) (sym left) ∙ c.matches.invariant.whole in
    IfOk-weaker c.error_reply.result _ _
    (λ reply e p es is.
    e ∙ ap (λ l. error_reply l error) c.matches.invariant.lines
    ∙ sym (failed_reply told error rest (iterate (outcome p es) (query_of c.args.input.now))
    (whole ∙ same ∙ c.find_iter-item-items.ensures.value p es is)))
    c.error_reply.ensures

pub returns-then-is_empty : goal.returns-then-is_empty
returns-then-is_empty c =
    let told = c.matches.invariant.told in
    let first = c.into_iter-item-iterator.result in
    let same : first ≡ c.find_iter-item-items.result = cc in
    let whole : map as_item told ≡ first =
    sym (append-nil (map as_item told))
    ∙ ap (λ (items : List Item). map as_item told ++ items) (sym c.in-None.ensures.steps.0)
    ∙ c.matches.invariant.whole in
    let zero : string_len c.matches.text ≡ 0 = eqb-true (string_len c.matches.text) 0 (sym c.if-is_empty.ensures) in
    let short : length (string_bytes c.matches.text) ≡ 0 = omega (arith, c.matches.text.bytes.ok) in
    let empty = sym c.matches.invariant.lines ∙ nil_from_length (string_bytes c.matches.text) short in
    IfOk-weaker c.fixed_reply.result _ _
    (λ reply e p es is.
    e
    ∙ sym (none_reply told (iterate (outcome p es) (query_of c.args.input.now))
    (whole ∙ same ∙ c.find_iter-item-items.ensures.value p es is) empty))
    c.fixed_reply.ensures

pub returns : goal.returns
returns c = grind (arith, common_steps, as_item, append-nil, eqb-false, matches_told)
