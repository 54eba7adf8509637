use Rattle.rx_spec.proofs.Prelude.{rules}
use Rattle.rx_equal.proofs.PartingsLaws.{equal_start_kinds, both_have_pattern_starts, equal_quit_bytes, equal_refusals}
use Rattle.rx_equal.proofs.laws.refusals_alike.Goals as goal

pub returns : goal.returns
returns c = search (rules, equal_start_kinds, both_have_pattern_starts, equal_quit_bytes, equal_refusals)
