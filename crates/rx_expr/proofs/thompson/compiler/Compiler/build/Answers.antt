use Rattle.rx_spec.proofs.Prelude.{common_steps, arith, length, ◌∙◌, ap}
use Rattle.rx_lemmas.proofs.Shallows.{nfa_shallow}
use Rattle.rx_expr.specs.Compiler.{asked_by}
use Rattle.rx_expr.specs.Compiles.{joined_count, lead_count}
use Rattle.rx_expr.proofs.PatternRows.{length-added_patterns, length-starts}
use Rattle.rx_expr.proofs.JoinedStarts.{length-joined}
use Rattle.rx_expr.proofs.BuiltNfas.{rows_fit, adds_all, nfa_made, nfa_same}
use Rattle.rx_expr.proofs.NamedPatterns.{nfa_names_patterns}
use Rattle.rx_expr.proofs.thompson.compiler.Compiler.build.Goals as goal

-- ---- room for each step

pub add_patterns-requires-clause-room : goal.add_patterns-requires-clause-room
add_patterns-requires-clause-room c =
    let direction = c.direction-direction.ensures in
    omega (arith, rows_fit (asked_by c.args.self.now) c.args.exprs.now direction c.requires.fits)

pub join_starts-requires : goal.join_starts-requires
join_starts-requires c =
    let fit = rows_fit (asked_by c.args.self.now) c.args.exprs.now c.direction-direction.ensures c.requires.fits in
    let patterns = c.in_ok-add_patterns.ensures in
    let starts = ap joined_count (ap length c.deref.ensures.value ∙ length-starts patterns) in
    omega (arith, length-added_patterns patterns)

pub lead_in_rows-requires : goal.lead_in_rows-requires
lead_in_rows-requires c =
    let fit = rows_fit (asked_by c.args.self.now) c.args.exprs.now c.direction-direction.ensures c.requires.fits in
    let patterns = c.in_ok-add_patterns.ensures in
    let starts = ap joined_count (ap length c.deref.ensures.value ∙ length-starts patterns) in
    let leads = ap lead_count c.all_begin_with_edge.ensures in
    omega (arith, length-added_patterns patterns, length-joined c.in_ok-start_anchored.ensures)

-- ---- what the steps made

pub invariant_of-result : goal.invariant_of-result
invariant_of-result c =
    let steps = adds_all c.in_ok-add_patterns.ensures c.deref.ensures.value c.in_ok-start_anchored.ensures
    c.all_begin_with_edge.ensures c.in_ok-start_unanchored.ensures in
    let made = nfa_made c.new.result c.get_utf8.result steps c.any_empty.ensures in
    let shallow = nfa_shallow c.direction-direction.result c.new.result c.get_utf8.result c.args.exprs.now in
    let patterns = nfa_names_patterns c.direction-direction.result c.new.result c.get_utf8.result c.args.exprs.now in
    grind (arith, common_steps)

pub returns : goal.returns
returns c =
    let steps = adds_all c.in_ok-add_patterns.ensures c.deref.ensures.value c.in_ok-start_anchored.ensures
    c.all_begin_with_edge.ensures c.in_ok-start_unanchored.ensures in
    let terminator = c.new.ensures ∙ c.get_line_terminator-line_terminator.ensures in
    nfa_made c.new.result c.get_utf8.result steps c.any_empty.ensures
    ∙ nfa_same c.args.exprs.now c.direction-direction.ensures terminator c.get_utf8.ensures
