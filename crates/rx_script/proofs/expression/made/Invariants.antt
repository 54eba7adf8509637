use Rattle.rx_spec.proofs.Prelude.{[], reverse}
use Rattle.std.proofs.Common.{vec_len}
use Rattle.rx_script.specs.Items.{made_onto}
use Rattle.rx_script.proofs.MadeOnto.{MakesParts}
use Rattle.rx_script.proofs.expression.made.Given as goal

abbrev pub invariant-items : goal.invariant-items
invariant-items l = MakesParts l.line l.items.items (reverse l.parts.items) (made_onto l.line l.initial.items.items [])

abbrev pub decreases-items : goal.decreases-items
decreases-items l = vec_len l.items
