use Rattle.rx_refine.proofs.Prelude.{All, AreAlikeByNumber, AreToldByNumber, AreWithoutGaps, arith, common_steps}
use Rattle.rx_refine.proofs.Prelude.{get_or, le_trans, lt_of_le_of_lt, rules, subst, sym, ◌<◌, ◌∙◌, ◌≡◌}
use Rattle.rx_refine.specs.Kept.{parts}
use Rattle.rx_refine.proofs.Sweeps.{IsNext, taken_read, sweep_first, sweep_more, taking_small, turn_allowed, hits_small}
use Rattle.rx_refine.proofs.Sweeps.{turn_more, turn_falls, all_allowed, all_more, all_next, blocks_below, result_alike}
use Rattle.rx_refine.proofs.Sweeps.{result_told, result_numbers, result_no_gaps, discrete_alike}
use Rattle.rx_refine.proofs.hopcroft.refine.Given as given
use Rattle.rx_refine.proofs.hopcroft.refine.Goals.{After-members, After-index-then-is_crowded}
use Rattle.rx_refine.proofs.hopcroft.refine.Goals.{then-is_crowded+in_ok-taken-2+else-is_crowded-2, else-is_crowded}
use Rattle.rx_refine.proofs.hopcroft.refine.Goals as goal

pub loop-seen-init : goal.loop-seen-init
loop-seen-init g c =
    let units = c.units-units.ensures.units in
    sweep_first c.units-units.ensures.moves c.requires.labels_len c.in_ok-partition.ensures
    (c.in_ok-taken.ensures.len ∙ units) (λ u l. c.in_ok-taken.ensures.none u (omega arith))

pub loop-seen-smaller : goal.loop-seen-smaller
loop-seen-smaller g c = let b = blocks_below c.loop-seen.invariant.round in omega arith

-- ---- a unit takes all blocks that wait for it
reads_all : (g : given.Over) (c : After-index-then-is_crowded g)
    → c.index-then-is_crowded.result.now ≡ get_or c.loop-unit.taken.items c.loop-unit.unit 0
reads_all g c = grind (arith, common_steps)

pub take_all-requires-clause-room : goal.take_all-requires-clause-room
take_all-requires-clause-room g c =
    let is = reads_all g (goal.at.take_all-requires-clause-room g c).After-index-then-is_crowded in
    lt_of_le_of_lt (all_allowed c.loop-unit.invariant (omega arith) is) c.requires.room

pub returns-in_err-taken-2-clause-steps : goal.returns-in_err-taken-2-clause-steps
returns-in_err-taken-2-clause-steps g c =
    let is = reads_all g (goal.at.returns-in_err-taken-2-clause-steps g c).After-index-then-is_crowded in
    le_trans c.in_err-taken-2.ensures.steps (all_allowed c.loop-unit.invariant (omega arith) is)

pub loop-unit-preserved-then-is_crowded-2 : goal.loop-unit-preserved-then-is_crowded-2
loop-unit-preserved-then-is_crowded-2 g c =
    let is = reads_all g (goal.at.loop-unit-preserved-then-is_crowded-2 g c).After-index-then-is_crowded in
    let taken = c.in_ok-taken-2.ensures in
    rw taken.end
    (all_next c.loop-unit.invariant (omega arith) is taken.takes c.units-units.ensures.moves taken.steps taken.rising)

pub loop-partition-init : goal.loop-partition-init
loop-partition-init g c = elim c.if-is_crowded.branch [
  | then-is_crowded+in_ok-taken-2+else-is_crowded-2 w ↦
      let is =
      taken_read c.loop-unit.invariant (omega arith) w.index-then-is_crowded.result.now w.index-then-is_crowded.ensures
      in
      let taken = w.in_ok-taken-2.ensures in
      rw (w.partition-is, w.taken-is, w.steps-is, taken.end)
      (all_more c.loop-unit.invariant (omega arith) is taken.takes c.units-units.ensures.moves taken.steps
      taken.rising)
  | else-is_crowded w ↦ rw (w.partition-is, w.taken-is, w.steps-is) c.loop-unit.invariant
]

-- ---- each row is alone in its block
pub returns-then-is_discrete-clause-alike : goal.returns-then-is_discrete-clause-alike
returns-then-is_discrete-clause-alike g c =
    let refined = c.loop-partition.invariant.round.settling.refined in
    subst (λ xs. AreAlikeByNumber c.args.incoming.now c.args.first.now xs) (sym c.into_blocks.ensures)
    (discrete_alike c.units-units.ensures.moves refined (sym c.is_discrete.ensures ∙ c.if-is_discrete.true))

pub returns-then-is_discrete-clause-told : goal.returns-then-is_discrete-clause-told
returns-then-is_discrete-clause-told g c =
    subst (λ xs. AreToldByNumber c.args.incoming.now c.args.first.now xs) (sym c.into_blocks.ensures)
    (result_told c.loop-partition.invariant.round.settling.refined)

pub returns-then-is_discrete-clause-numbers : goal.returns-then-is_discrete-clause-numbers
returns-then-is_discrete-clause-numbers g c =
    subst (λ xs. All (λ block. block < c.args.incoming.now.rows) xs) (sym c.into_blocks.ensures)
    (result_numbers c.loop-partition.invariant.round.settling.refined)

pub returns-then-is_discrete-clause-no_gaps : goal.returns-then-is_discrete-clause-no_gaps
returns-then-is_discrete-clause-no_gaps g c =
    subst (λ xs. AreWithoutGaps xs) (sym c.into_blocks.ensures)
    (result_no_gaps c.loop-partition.invariant.round.settling.refined)

-- ---- a unit takes a block
next_block : (g : given.Over) (c : After-members g)
    → IsNext (parts c.loop-partition.partition) c.loop-partition.taken.items c.loop-unit.unit c.index-block.result.now
    c.members.result.now
next_block g c = grind (arith, common_steps)

pub gather-requires-clause-members : goal.gather-requires-clause-members
gather-requires-clause-members g c =
    let next = next_block g (goal.at.gather-requires-clause-members g c).After-members in
    taking_small c.loop-partition.invariant (omega arith) next

pub gather-requires-clause-room : goal.gather-requires-clause-room
gather-requires-clause-room g c =
    let next = next_block g (goal.at.gather-requires-clause-room g c).After-members in
    lt_of_le_of_lt (turn_allowed c.loop-partition.invariant (omega arith) next) c.requires.room

pub returns-in_err-gather-clause-steps : goal.returns-in_err-gather-clause-steps
returns-in_err-gather-clause-steps g c =
    let next = next_block g (goal.at.returns-in_err-gather-clause-steps g c).After-members in
    le_trans c.in_err-gather.ensures.steps (turn_allowed c.loop-partition.invariant (omega arith) next)

pub split-requires-clause-hits : goal.split-requires-clause-hits
split-requires-clause-hits g c =
    let next = next_block g (goal.at.split-requires-clause-hits g c).After-members in
    hits_small c.loop-partition.invariant (omega arith) next c.units-units.ensures.moves
    (c.deref.ensures.value ∙ c.in_ok-gather.ensures.hits)

pub returns-in_err-split-clause-steps : goal.returns-in_err-split-clause-steps
returns-in_err-split-clause-steps g c =
    let next = next_block g (goal.at.returns-in_err-split-clause-steps g c).After-members in
    le_trans c.in_ok-gather.ensures.steps (turn_allowed c.loop-partition.invariant (omega arith) next)

pub loop-partition-smaller : goal.loop-partition-smaller
loop-partition-smaller g c =
    let next = next_block g (goal.at.loop-partition-smaller g c).After-members in
    turn_falls c.loop-partition.invariant (omega arith) next

pub loop-partition-preserved : goal.loop-partition-preserved
loop-partition-preserved g c =
    let next = next_block g (goal.at.loop-partition-preserved g c).After-members in
    let gathered = c.in_ok-gather.ensures in
    turn_more c.loop-partition.invariant (omega arith) next c.units-units.ensures.moves
    (c.deref.ensures.value ∙ gathered.hits) c.in_ok-split.ensures gathered.steps gathered.rising

-- ---- a unit took all blocks
pub loop-unit-preserved : goal.loop-unit-preserved
loop-unit-preserved g c =
    let sweep = c.loop-partition.invariant in
    let read = c.index-in-loop-partition.result.now in
    let is = taken_read sweep (omega arith) read c.index-in-loop-partition.ensures in
    let len = c.len-in-loop-partition.ensures in
    let none = c.loop-partition-test.false in
    sweep_more sweep (omega arith)

-- ---- no sweep is left
pub returns-clause-alike : goal.returns-clause-alike
returns-clause-alike g c =
    subst (λ xs. AreAlikeByNumber c.args.incoming.now c.args.first.now xs) (sym c.into_blocks-2.ensures)
    (result_alike c.units-units.ensures.moves c.loop-seen.invariant (omega arith))

pub returns-clause-told : goal.returns-clause-told
returns-clause-told g c = search rules

pub returns-clause-numbers : goal.returns-clause-numbers
returns-clause-numbers g c =
    subst (λ xs. All (λ block. block < c.args.incoming.now.rows) xs) (sym c.into_blocks-2.ensures)
    (result_numbers c.loop-seen.invariant.round.settling.refined)

pub returns-clause-no_gaps : goal.returns-clause-no_gaps
returns-clause-no_gaps g c =
    subst (λ xs. AreWithoutGaps xs) (sym c.into_blocks-2.ensures)
    (result_no_gaps c.loop-seen.invariant.round.settling.refined)
