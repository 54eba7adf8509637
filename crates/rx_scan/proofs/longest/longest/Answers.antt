use Rattle.rx_spec.proofs.Prelude.{common_steps, ◌≡◌, ◌<◌, Some, sym, ◌∙◌, ap, subst, arith, length, eqb-true}
use Rattle.rx_spec.proofs.Prelude.{false_from_ne_true, row_of, HalfMatch}
use Rattle.rx_search.specs.Labels.{patterns_of}
use Rattle.rx_meaning.specs.AllMatches.{told_at}
use Rattle.rx_scan.specs.Walks.{IsLast, kept_met}
use Rattle.rx_scan.specs.declared.longest.MetRow.{MetRow}
use Rattle.rx_scan.proofs.LastRows.{told}
use Rattle.rx_scan.proofs.LongestMatches.{longest_lowest}
use Rattle.rx_scan.proofs.longest.longest.Goals as goal

pub returns-then-met-from-clause-value : goal.returns-then-met-from-clause-value
returns-then-met-from-clause-value g c = grind (arith, common_steps)

pub returns-else-met-from-clause-value : goal.returns-else-met-from-clause-value
returns-else-met-from-clause-value g c =
    let t = g.A.Automaton.table c.args.table.now in
    let ids = g.A.Automaton.ids c.args.table.now in
    let text = c.args.text.now in
    let met : MetRow = c.in-Ok-last_met.met in
    let some : kept_met c.args.from met ≡ Some met
    = grind (arith, common_steps, false_from_ne_true, eqb-true) in
    let last = subst (IsLast t ids c.args.from (length text) (told_at t text c.args.from)) some
    c.in-Ok-last_met.ensures in
    let ks = patterns_of t (row_of ids met.row) in
    let above : c.args.from < met.offset = omega arith in
    let lowest = longest_lowest c.args.from met.offset ks c.lowest.result above c.lowest.ensures in
    ap (λ (m : HalfMatch). told (Some m)) c.new.ensures ∙ sym (last.best ∙ ap told lowest)
