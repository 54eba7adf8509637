use Rattle.rx_spec.proofs.Prelude.{◌≡◌, ◌++◌, List, map, Ok, flat_map, string_bytes, Match}
use Rattle.rx_main.specs.Lines.{match_line}
use Rattle.rx_main.proofs.each.matches_reply.Given as goal

-- the matches that were given, those that are left, and the lines of the first
abbrev pub invariant-matches : goal.invariant-matches
invariant-matches l = record {
  told : List Match;
  whole : map Ok told ++ l.item-iterator ≡ l.initial.item-iterator;
  lines : string_bytes l.text ≡ flat_map match_line told;
}
