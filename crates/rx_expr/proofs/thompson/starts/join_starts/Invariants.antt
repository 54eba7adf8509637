use Rattle.rx_spec.proofs.Prelude.{◌-◌, drop, length}
use Rattle.rx_expr.specs.Compiles.{AddsJoined}
use Rattle.rx_expr.proofs.thompson.starts.join_starts.Given as goal

-- the last starts are joined, as many as there were rounds
abbrev pub invariant-loop-round : goal.invariant-loop-round
invariant-loop-round l = AddsJoined (drop (length l.starts - l.round) l.starts) l.fn.rows.items l.rows.items l.start
