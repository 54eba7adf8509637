use Rattle.rx_spec.proofs.Prelude.{◌≡◌, ◌++◌, length, List, flat_map, string_bytes}
use Rattle.rx_scan.specs.States.{state}
use Rattle.rx_scan.specs.declared.token.Token.{Token}
use Rattle.rx_main.specs.Scan.{token_line}
use Rattle.rx_main.proofs.scan.scanned_reply.Given as goal

-- the tokens that were told, those that are left, and the lines of the first
abbrev pub invariant-tokens : goal.invariant-tokens
invariant-tokens g l = record {
  told : List Token;
  whole : told ++ (state (g.A.Automaton.table) l.scanner).left.tokens
      ≡ (state (g.A.Automaton.table) l.initial.scanner).left.tokens;
  end : (state (g.A.Automaton.table) l.scanner).left.end
      ≡ (state (g.A.Automaton.table) l.initial.scanner).left.end;
  lines : string_bytes l.lines ≡ flat_map token_line told;
  count : l.count ≡ length told;
}

abbrev pub decreases-tokens : goal.decreases-tokens
decreases-tokens g l = length (state (g.A.Automaton.table) l.scanner).left.tokens
