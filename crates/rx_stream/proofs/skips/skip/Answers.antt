use Rattle.rx_spec.proofs.Prelude.{arith, sym, ◌∙◌, ℕ, List, None, subst, common_steps, take_rest}
use Rattle.rx_search.specs.Needles.{IsFirstNeedle}
use Rattle.rx_search.proofs.Standing.{standing}
use Rattle.rx_search.proofs.Needles.{some_needles}
use Rattle.rx_stream.proofs.Pieces.{skip_found, skip_none}
use Rattle.rx_stream.proofs.skips.skip.Goals as goal

pub returns-in-Some : goal.returns-in-Some
returns-in-Some g c = grind (arith, common_steps, standing, skip_found)

pub returns-in-None : goal.returns-in-None
returns-in-None g c =
    let met = g.met.A.Automaton in
    let table = c.args.table.now in
    let s = standing c.args.row (met.sound table c.requires.sound) (met.are_ids table) c.requires.is_id in
    let accelerated = sym c.is_accel_state.ensures ∙ c.if-not-is_accel_state.false in
    skip_none (c.as_slice.ensures ∙ c.accelerator.ensures) (some_needles s accelerated) c.requires.within
    (subst (λ (xs : List ℕ). IsFirstNeedle c.as_slice.result.now xs None)
    (take_rest c.args.piece.now c.args.from) c.in-None.ensures)
