use Rattle.rx_spec.proofs.Prelude.{vec_capacity, ◌≡◌, ◌+◌, ◌<◌, ◌≤◌, ◌++◌, [], length, sum_by, id_count, closure, fresh}
use Rattle.rx_stepper.proofs.Prelude.{IfNone, graph_of, in_turn, is_met, meaning, passing_of, unmet, weight_of}
use Rattle.std.specs.List.{AllByRecursion as Every}
use Rattle.rx_lemmas.proofs.GraphSearch.{Searching}
use Rattle.rx_stepper.proofs.closures.Closures.search.Given as goal

abbrev pub invariant-search : goal.invariant-search
invariant-search l =
    let nfa = l.self.nfa.now in
    let rows = (meaning nfa).rows in
    let pass = passing_of l.passing in
    let met = is_met l.self.stamps.stamps.items l.self.stamps.now in
    let new = unmet l.self.stamps.stamps.items l.self.stamps.now in
    let left = in_turn l.next l.self.waiting.items in
    let target = l.fn.found.items ++ fresh l.fn.found.items (closure rows pass l.fn.row) in
    record {
      search : Searching (graph_of rows pass nfa.shallow) target met l.found.items left;
      few : Every (λ x. x < id_count) l.found.items;
      none : IfNone l.next (l.self.waiting.items ≡ []);
      stack : length l.self.waiting.items + new ≤ length rows;
      listed : length l.found.items + new ≤ length rows;
      found_room : length rows ≤ vec_capacity l.found;
      found_grown : vec_capacity l.fn.found ≤ vec_capacity l.found;
      nfa : l.self.nfa.now ≡ l.fn.self.nfa.now;
    }

abbrev pub decreases-search : goal.decreases-search
decreases-search l = sum_by (weight_of (meaning l.self.nfa.now).rows) (in_turn l.next l.self.waiting.items)
