-- The state of the definitions that a powerset state of the code means.
use Rattle.rx_spec.specs.States.{State}
use Rattle.rx_powerset.specs.declared.state.PowerState.{PowerState}

abbrev pub state_of : PowerState → State
state_of s = record { rows = s.rows.items; context = s.context; label = s.label.items }
