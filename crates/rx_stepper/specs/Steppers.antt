-- The `Stepping` that a stepper of the code means.
use Rattle.rx_expr.specs.Nfa.{meaning}
use Rattle.rx_stepper.specs.Keys.{is_key, spelled}
use Rattle.rx_stepper.specs.Leads.{lead_of}
use Rattle.rx_stepper.specs.Stepping.{Stepping}
use Rattle.rx_stepper.specs.declared.stepper.Stepper.{Stepper}

unfoldable pub stepping_of : Stepper → Stepping
stepping_of s =
    let nfa = meaning s.closures.nfa.now in
    record {
      nfa = nfa;
      kind = s.kind;
      classes = s.classes;
      is_key = is_key nfa.rows (lead_of nfa);
      state_of = spelled (lead_of nfa);
      current = spelled (lead_of nfa) s.current.key.items;
      led_in = s.current.led_in;
    }
