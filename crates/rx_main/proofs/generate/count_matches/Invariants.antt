use Rattle.rx_spec.proofs.Prelude.{◌≡◌, ◌≤◌, ◌*◌, ◌++◌, List, map, length, sum_by, Ok, max_id, Match}
use Rattle.rx_main.proofs.Generated.{gen_items}
use Rattle.rx_main.proofs.generate.count_matches.Given as goal

-- the matches that were given, counted, and those that are left
abbrev pub invariant-matches : goal.invariant-matches
invariant-matches l = record {
  told : List Match;
  whole : map Ok told ++ l.item-iterator ≡ gen_items l.count;
  number : l.matches ≡ length told;
  total : l.sum ≡ sum_by (λ m. m.pattern) told;
  small : l.sum ≤ l.matches * max_id;
}
