use Rattle.rx_spec.proofs.Prelude.{common_steps, ◌≡◌, ℕ, ◌++◌, List, [], map, Option, sym, ◌∙◌, arith, Bor, IfSome}
use Rattle.rx_spec.proofs.Prelude.{option_map_or, Row}
use Rattle.rx_stepper.proofs.Prelude.{AreEmpty, ColumnSteps, matches_in, meaning, patterns_of, without}
use Rattle.rx_stepper.proofs.Without.{without_nil}
use Rattle.rx_stepper.proofs.gathered.write_label.Goals as goal

-- where none of the rows may match there is no label
none_told : (rows : List Row) (group : ℕ) {mine : List ℕ} (lead : Option (Bor ColumnSteps)) → mine ≡ []
    → IfSome lead (λ s. AreEmpty (map (λ v. v.items) s.now.matches.items))
    → patterns_of rows (mine ++ option_map_or (λ s. without mine (matches_in s.now group)) lead []) ≡ []
none_told rows group lead none empty = grind (arith, common_steps, without_nil)

pub returns-then-not-may_match : goal.returns-then-not-may_match
returns-then-not-may_match c =
    let own = c.args.own.now in
    let rows = (meaning c.args.closures.now.nfa.now).rows in
    let none = own.no_matches c.if-not-own.true c.args.group in
    c.clear.ensures.items
    ∙ sym (none_told rows c.args.group c.args.lead none (c.may_match.ensures c.if-not-may_match.true))

pub returns-in_default : goal.returns-in_default
returns-in_default c = grind (arith, common_steps)

pub returns-in_ok-add_other_patterns : goal.returns-in_ok-add_other_patterns
returns-in_ok-add_other_patterns c = grind (arith, common_steps)
