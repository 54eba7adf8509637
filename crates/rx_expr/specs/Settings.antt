-- Settings of Thompson's construction.
use Rattle.std.specs.Prelude.{ℕ, Bool, true, false, Option, None, unwrap_or}
use Rattle.std.specs.Option.{option_or}
use Rattle.rx_spec.specs.declared.Direction.{Direction}
use Rattle.rx_expr.specs.declared.thompson.config.Config.{Config}

-- what was set
pub record Asked : Type 0 where
  pub reverse : Option Bool
  pub is_utf8 : Option Bool
  pub size_limit : Option (Option ℕ)
  pub line_terminator : Option ℕ

abbrev pub asked : Config → Asked
asked c = record {
  reverse = c.reverse;
  is_utf8 = c.utf8;
  size_limit = c.nfa_size_limit;
  line_terminator = c.line_terminator;
}

-- nothing was set
abbrev pub nothing_asked : Asked
nothing_asked = record { reverse = None; is_utf8 = None; size_limit = None; line_terminator = None }

abbrev pub overwritten : Asked → Asked → Asked
overwritten old new = record {
  reverse = option_or new.reverse old.reverse;
  is_utf8 = option_or new.is_utf8 old.is_utf8;
  size_limit = option_or new.size_limit old.size_limit;
  line_terminator = option_or new.line_terminator old.line_terminator;
}

-- the direction in which is read, as a truth value and back
abbrev pub direction_of : Bool → Direction
direction_of true = Direction.Reverse
direction_of false = Direction.Forward

abbrev pub is_reverse : Direction → Bool
is_reverse Direction.Reverse = true
is_reverse Direction.Forward = false

-- what holds, defaults included: forward, UTF-8 on, no limit, \n
pub record Settled : Type 0 where
  pub direction : Direction
  pub is_utf8 : Bool
  pub size_limit : Option ℕ
  pub line_terminator : ℕ

abbrev pub settled : Asked → Settled
settled a = record {
  direction = direction_of (unwrap_or a.reverse false);
  is_utf8 = unwrap_or a.is_utf8 true;
  size_limit = unwrap_or a.size_limit None;
  line_terminator = unwrap_or a.line_terminator 10;
}
