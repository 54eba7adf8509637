use Rattle.rx_spec.proofs.Prelude.{◌≤◌, ◌-◌}
use Rattle.rx_search.specs.FourWalks.{AreIdsOf, AreWalks}
use Rattle.rx_search.proofs.parts.pass_block.Given as goal

abbrev pub invariant-bytes : goal.invariant-bytes
invariant-bytes g l =
    let t = g.A.Automaton.table l.dfa in
    let ids = g.A.Automaton.ids l.dfa in record {
      are_ids : AreIdsOf ids l.rows;
      walks : AreWalks t ids l.haystack l.from l.count l.entries l.rows;
      few : l.count ≤ 1024;
    }

abbrev pub decreases-bytes : goal.decreases-bytes
decreases-bytes g l = 1024 - l.count
