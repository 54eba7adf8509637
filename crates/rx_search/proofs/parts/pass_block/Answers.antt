use Rattle.rx_spec.proofs.Prelude.{rules, ◌≡◌, arith, common_steps}
use Rattle.rx_search.specs.declared.parts.Rows.{Rows}
use Rattle.rx_search.proofs.FourWalks.{walks_none, walks_more}
use Rattle.rx_search.proofs.parts.pass_block.Goals as goal

pub bytes-init : goal.bytes-init
bytes-init g c = search (rules, walks_none)

pub bytes-preserved : goal.bytes-preserved
bytes-preserved g c =
    let inv = c.bytes.invariant in record {
      are_ids = c.step-next.ensures.ids;
      walks = walks_more inv.walks c.step-next.ensures.led (c.is_one_special.ensures c.if-is_one_special.false);
      few = omega arith;
    }

pub returns-then-is_one_special : goal.returns-then-is_one_special
returns-then-is_one_special g c = grind (arith, common_steps)

pub returns : goal.returns
returns g c =
    let t = g.A.Automaton.table c.args.dfa.now in
    let ids = g.A.Automaton.ids c.args.dfa.now in
    let inv = c.bytes.invariant in
    let full : c.bytes.count ≡ 1024 = omega arith in
    let entries : Rows = record {
      first = c.args.row;
      second = c.lead.result;
      third = c.lead-2.result;
      fourth = c.lead-3.result;
    } in
    grind (arith, common_steps)
