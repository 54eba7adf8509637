-- What is searched for matches one after another, and where the last one ended.
use Rattle.std.specs.Prelude.{ℕ, Option}
use Rattle.rx_spec.specs.Queries.{Query}

pub record Search : Type 0 where
  pub query : Query
  pub last_end : Option ℕ
