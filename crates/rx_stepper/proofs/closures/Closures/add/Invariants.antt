use Rattle.rx_spec.proofs.Prelude.{vec_capacity, ◌≡◌, ◌≤◌, ◌++◌, [], length, drop, flat_map, closure, fresh}
use Rattle.rx_stepper.proofs.Prelude.{IsSearched, meaning, passing_of}
use Rattle.rx_stepper.proofs.StampedSearch.{Leaves}
use Rattle.rx_stepper.proofs.closures.Closures.add.Given as goal

abbrev pub invariant-each : goal.invariant-each
invariant-each l =
    let rows = (meaning l.self.nfa.now).rows in
    let pass = passing_of l.passing in
    let stamps = l.self.stamps in
    let before = l.fn.found.items in
    record {
      searched : IsSearched rows pass stamps.stamps.items stamps.now l.found.items;
      left :
          Leaves rows pass l.found.items (drop l.row-index l.from)
          (before ++ fresh before (flat_map (closure rows pass) l.from));
      empty : l.self.waiting.items ≡ [];
      found_room : length rows ≤ vec_capacity l.found;
      found_grown : vec_capacity l.fn.found ≤ vec_capacity l.found;
      nfa : l.self.nfa.now ≡ l.fn.self.nfa.now;
    }
