-- What decides where a search starts: the byte beside its span, on the side where reading begins, and its mode.
use Rattle.std.specs.Prelude.{ℕ, Option}
use Rattle.rx_spec.specs.Queries.{Anchored}

pub record StartConfig : Type 0 where
  pub beside : Option ℕ
  pub mode : Anchored
