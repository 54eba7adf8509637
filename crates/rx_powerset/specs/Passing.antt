-- What becomes of an assertion that is met, as the code says it.
use Rattle.rx_spec.specs.Contexts.{holds_read}
use Rattle.rx_spec.specs.States as states
use Rattle.rx_spec.specs.States.{Standing, Tested}
use Rattle.rx_powerset.specs.declared.closure.Passing.{Passing}

abbrev pub passing_of : Passing → states.Passing
passing_of Passing.Standing = Standing
passing_of (Passing.Tested last next direction) = Tested (λ look. holds_read direction look last next)
