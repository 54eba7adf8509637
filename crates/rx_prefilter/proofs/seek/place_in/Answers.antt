use Rattle.std.proofs.lemmas.Grind.{common_steps}
use Rattle.rx_spec.proofs.Prelude.{◌≡◌, ◌∙◌, ◌<◌, arith, None, Option, Some, ℕ, sym, subst, get_or_default, MatchOption}
use Rattle.rx_prefilter.specs.Seeking.{IsFirstShown}
use Rattle.rx_prefilter.proofs.Showing.{IsPart, first_shown, none_shown, not_some}
use Rattle.rx_prefilter.proofs.seek.place_in.Goals as goal

pub returns-in-Some-clause-first : goal.returns-in-Some-clause-first
returns-in-Some-clause-first c =
    grind (arith, common_steps, first_shown)

pub returns-in-Some-clause-bytes : goal.returns-in-Some-clause-bytes
returns-in-Some-clause-bytes c = λ k d h.
    subst (λ (b : ℕ). b < 256) (get_or_default c.args.window.now k 0 d h) (omega (arith, c.type_inv.window k))

pub returns-in-None-clause-first : goal.returns-in-None-clause-first
returns-in-None-clause-first c =
    let part : IsPart c.args.window.now c.args.base c.args.span.now.start c.args.span.now.end c.min-low.result
    c.min-high.result = record {
      high_is = omega arith;
      low_is = omega arith;
    } in
    let none = not_some c.args.known (sym c.is_some.ensures ∙ c.if-is_some.false) in
    subst (λ (known : Option ℕ). MatchOption known
    (IsFirstShown c.args.window.now c.args.finder.now c.args.base c.args.span.now.start c.args.span.now.end None)
    (λ (place : ℕ). None ≡ Some place)) (sym none)
    (none_shown part c.requires.literal c.in-None.ensures)

pub returns-in-None-clause-bytes : goal.returns-in-None-clause-bytes
returns-in-None-clause-bytes c = λ k d h.
    subst (λ (b : ℕ). b < 256) (get_or_default c.args.window.now k 0 d h) (omega (arith, c.type_inv.window k))
