use Rattle.rx_spec.proofs.Prelude.{common_steps, ◌≡◌, ◌<◌, ◌++◌, List, ℕ, reverse, ◌∷◌, get_or, length, ap, arith, ◌∙◌}
use Rattle.rx_spec.proofs.Prelude.{sym, subst, id_count, closure, fresh, row_at}
use Rattle.rx_stepper.proofs.Prelude.{NFA, ThinRow, branches_by, few_more, graph_of, is_met, meaning, met_falls, own_by}
use Rattle.rx_stepper.proofs.Prelude.{own_either, passed_falls, passing_of, row_of_thin}
use Rattle.rx_stepper.proofs.StampedSearch.{searched, passed_on, met_now, hand_first, top_in_hand, none_waits}
use Rattle.rx_stepper.proofs.StampedSearch.{count_new}
use Rattle.rx_stepper.proofs.ThinLists.{thin_there}
use Rattle.rx_stepper.proofs.closures.Closures.search.Goals as goal

pub search-init : goal.search-init
search-init c = grind (arith, common_steps)

-- ---- a row that is new

there : (thin : List ThinRow) {i q : ℕ} {row : ThinRow} → i ≡ q → row ≡ get_or thin i row → row ≡ get_or thin q row
there thin {row = row} e is = subst (λ k. row ≡ get_or thin k row) e is

pub search-smaller-then-is_first : goal.search-smaller-then-is_first
search-smaller-then-is_first c =
    let nfa = c.search.self.nfa.now in
    let pass = passing_of c.args.passing.now in
    let stack = c.search.self.waiting.items in
    let thin = c.search.self.thin_rows c.in-Some.id in
    let at_id = there c.search.self.thin.items c.as_usize.ensures.value c.index.ensures in
    let within : c.in-Some.id < length c.search.self.thin.items = omega arith in
    let row = thin_there c.search.self.thin.items c.in-Some.id within at_id in
    let behind = c.hand_or_top-next.ensures.order ∙ c.enter-hand.ensures.waiting ∙ ap (λ l. l ++ reverse stack)
    (ap (λ r. branches_by pass (row_of_thin r)) row ∙ thin.branches pass) in
    met_falls (graph_of (meaning nfa).rows pass nfa.shallow) (hand_first stack c.in-Some.is) behind

pub search-preserved-then-is_first : goal.search-preserved-then-is_first
search-preserved-then-is_first c =
    let nfa = c.search.self.nfa.now in
    let pass = passing_of c.args.passing.now in
    let graph = graph_of (meaning nfa).rows pass nfa.shallow in
    let before = c.search.invariant in
    let old = c.search.self.stamps in
    let new = c.is_first.new.self in
    let stack = c.search.self.waiting.items in
    let id = c.in-Some.id in
    let thin = c.search.self.thin_rows id in
    let at_id = there c.search.self.thin.items c.as_usize.ensures.value c.index.ensures in
    let within : id < length c.search.self.thin.items = omega arith in
    let row = thin_there c.search.self.thin.items id within at_id in
    let entered = c.enter-hand.ensures in
    let taken = c.hand_or_top-next.ensures in
    let behind = taken.order ∙ entered.waiting ∙ ap (λ l. l ++ reverse stack)
    (ap (λ r. branches_by pass (row_of_thin r)) row ∙ thin.branches pass) in
    let own = entered.found ∙ ap (λ l. c.search.found.items ++ l)
    (ap (λ r. own_by pass id (row_of_thin r)) row ∙ thin.own pass id) in
    let count = count_new _ c.is_first.result c.is_first.ensures.count c.if-is_first.true in
    record {
      search =
          met_now graph (reverse stack) id (is_met old.stamps.items old.now) (is_met new.stamps.items new.now)
          c.is_first.ensures.only before.search (hand_first stack c.in-Some.is) c.is_first.ensures.new
          c.if-is_first.true own behind;
      few = few_more id_count _ entered.bound (own_either pass id (row_at (meaning nfa).rows id)) own before.few;
      none = taken.none;
      stack = omega arith;
      listed = omega arith;
      found_room = omega arith;
      found_grown = omega arith;
      nfa = before.nfa;
    }

-- ---- a row that was met

pub search-smaller : goal.search-smaller
search-smaller c =
    let nfa = c.search.self.nfa.now in
    let graph = graph_of (meaning nfa).rows (passing_of c.args.passing.now) nfa.shallow in
    let stack = c.search.self.waiting.items in
    let left = top_in_hand c.pop-next.result c.pop-next.new.self.items c.pop-next.ensures.items in
    passed_falls graph (hand_first stack c.in-Some.is ∙ ap (λ l. c.in-Some.id ∷ l) (sym left))

pub search-preserved : goal.search-preserved
search-preserved c =
    let nfa = c.search.self.nfa.now in
    let graph = graph_of (meaning nfa).rows (passing_of c.args.passing.now) nfa.shallow in
    let before = c.search.invariant in
    let old = c.search.self.stamps in
    let new = c.is_first.new.self in
    let stack = c.search.self.waiting.items in
    let rest = c.pop-next.new.self in
    let first = c.is_first.ensures in
    record {
      search =
          passed_on graph (reverse stack) c.in-Some.id (is_met old.stamps.items old.now)
          (is_met new.stamps.items new.now) first.only before.search (hand_first stack c.in-Some.is) first.new
          c.if-is_first.false (top_in_hand c.pop-next.result rest.items c.pop-next.ensures.items);
      few = before.few;
      none = none_waits c.pop-next.result rest.items _ rest.ok.0 c.pop-next.ensures.cases;
      stack = omega arith;
      listed = omega arith;
      found_room = before.found_room;
      found_grown = before.found_grown;
      nfa = before.nfa;
    }

-- ---- the end

pub returns-clause-rows : goal.returns-clause-rows
returns-clause-rows c =
    let nfa = c.search.self.nfa.now in
    let left = c.search.invariant in
    let pass = passing_of c.args.passing.now in
    let stamps = c.search.self.stamps in
    let found = c.args.found.now.items in
    let done =
    searched (meaning nfa).rows pass nfa.shallow {stamps = stamps.stamps.items} {now = stamps.now} c.search.next
    c.search.self.waiting.items c.in_default.is left.none left.search left.few left.listed in
    done.0 ∙ ap (λ (n : NFA). found ++ fresh found (closure (meaning n).rows pass c.args.row)) left.nfa
