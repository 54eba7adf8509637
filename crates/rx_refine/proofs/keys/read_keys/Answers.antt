use Rattle.rx_refine.proofs.Prelude.{arith, common_steps, lt_of_le_of_lt, ◌∙◌}
use Rattle.rx_refine.proofs.NextKeys.{reading_none, reading_room, reading_read, reading_passed}
use Rattle.rx_refine.proofs.keys.read_keys.Goals.{then-taken-block, else-taken-block}
use Rattle.rx_refine.proofs.keys.read_keys.Goals as goal

pub loop-row-init : goal.loop-row-init
loop-row-init g c = reading_none (c.clear.ensures.len ∙ c.requires.keys) (λ x l. c.clear.ensures.zeros x 0 l)

pub set_keys-requires-clause-room : goal.set_keys-requires-clause-room
set_keys-requires-clause-room g c =
    lt_of_le_of_lt (reading_room c.loop-row.invariant (omega arith) c.if-taken-block.true) c.requires.room

pub loop-row-preserved : goal.loop-row-preserved
loop-row-preserved g c = elim c.if-taken-block.branch [
  | then-taken-block w ↦
      let set = w.set_keys.ensures in
      rw (w.keys-is, w.steps-is)
      (reading_read c.loop-row.invariant c.requires.moves c.requires.unit (omega arith) w.if-taken-block.true set.len
      set.keys set.steps)
  | else-taken-block w ↦ rw (w.keys-is, w.steps-is) (reading_passed c.loop-row.invariant w.if-taken-block.false)
]

pub returns-clause-keys : goal.returns-clause-keys
returns-clause-keys g c = grind (arith, common_steps)
