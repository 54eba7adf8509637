use Rattle.std.proofs.Common.{arith}
use Rattle.std.proofs.lemmas.Grind.{common_steps}
use Rattle.rx_spec.proofs.Prelude.{ℕ, flat_map, id_count, row_at, closure}
use Rattle.rx_expr.specs.Nfa.{meaning}
use Rattle.rx_powerset.specs.Passing.{passing_of}
use Rattle.rx_lemmas.proofs.RowClosures.{own_either}
use Rattle.rx_powerset.proofs.NfaGraph.{nfa_graph}
use Rattle.rx_lemmas.proofs.StateBounds.{few_firsts}
use Rattle.rx_lemmas.proofs.StackSearch.{popped, passed, met, passed_falls, met_falls, stopped}
use Rattle.rx_powerset.proofs.closure.closed.Goals as goal

-- ---- a row that is new

pub search-smaller-in-Continue-branch-3 : goal.search-smaller-in-Continue-branch-3
search-smaller-in-Continue-branch-3 c =
    let graph = nfa_graph c.args.nfa.now c.args.passing.now in
    met_falls graph (popped _ c.in-Some.ensures.items) c.in_ok-visit.ensures.waiting

pub search-preserved-in-Continue-branch-3 : goal.search-preserved-in-Continue-branch-3
search-preserved-in-Continue-branch-3 c =
    let graph = nfa_graph c.args.nfa.now c.args.passing.now in
    let before = c.search.invariant in
    let first = popped _ c.in-Some.ensures.items in
    let noted = c.in_ok-insert.ensures in
    let visited = c.in_ok-visit.ensures in
    let row = row_at (meaning c.args.nfa.now).rows c.in-Some.id in
    let turned =
    met graph c.search.seen c.insert.new.self before.search first noted.added c.if-branch.true noted.updates in
    let own = own_either (passing_of c.args.passing.now) c.in-Some.id row in
    grind (arith, common_steps)

-- ---- a row that was seen

pub search-smaller : goal.search-smaller
search-smaller c = passed_falls (nfa_graph c.args.nfa.now c.args.passing.now) (popped _ c.in-Some.ensures.items)

pub search-preserved : goal.search-preserved
search-preserved c =
    let graph = nfa_graph c.args.nfa.now c.args.passing.now in
    let before = c.search.invariant in
    let first = popped _ c.in-Some.ensures.items in
    let noted = c.in_ok-insert.ensures in
    record {
      search =
          passed graph c.search.seen c.insert.new.self before.search first noted.added c.if-branch.false noted.updates;
      few = before.few;
    }

-- ---- the end

pub returns-clause-rows : goal.returns-clause-rows
returns-clause-rows c =
    let graph = nfa_graph c.args.nfa.now c.args.passing.now in
    stopped graph c.search.waiting.items c.search.waiting.ok.0 c.in_default.ensures.cases.0 c.search.invariant.search

pub returns-clause-bound : goal.returns-clause-bound
returns-clause-bound c =
    let reached = λ (q : ℕ). closure (meaning c.args.nfa.now).rows (passing_of c.args.passing.now) q in
    few_firsts (flat_map reached c.args.from.now) id_count (returns-clause-rows c) c.search.invariant.few
