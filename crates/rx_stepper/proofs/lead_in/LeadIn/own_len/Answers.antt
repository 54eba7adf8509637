use Rattle.rx_spec.proofs.Prelude.{common_steps, ℕ, ◌-◌, ◌<◌, ◌≤◌, ap, subst, sym, ◌∙◌, arith, slice_index_or}
use Rattle.rx_stepper.proofs.Prelude.{no_place}
use Rattle.rx_stepper.proofs.KeyLaws.{once_apart}
use Rattle.rx_stepper.proofs.LeadPlaces.{Trimmed, last_row, trimmed_least, trimmed_more, trimmed_none}
use Rattle.rx_stepper.proofs.lead_in.LeadIn.own_len.Goals as goal

pub loop-len-init : goal.loop-len-init
loop-len-init c = trimmed_none c.requires.met

pub loop-len-preserved : goal.loop-len-preserved
loop-len-preserved c =
    let self = c.args.self.now in
    let lead = self.rows.items in
    let own = c.args.own.now in
    let t = c.loop-len.invariant in
    let l = last_row own c.loop-len.len c.loop-len-test.true t.within c.index-own-len.is in
    let place = c.place-place.ensures
    ∙ ap (λ (row : ℕ). slice_index_or self.places.items row no_place) c.as_usize.ensures.value in
    subst (Trimmed lead own (c.loop-len.len - 1)) (sym place)
    (trimmed_more self.places_are (once_apart lead self.once) (once_apart own c.requires.once) t l
    (subst (λ p. p < c.loop-len.met) place c.if-place-met.false))

pub returns-then-place-met : goal.returns-then-place-met
returns-then-place-met c =
    let self = c.args.self.now in
    let lead = self.rows.items in
    let own = c.args.own.now in
    let t = c.loop-len.invariant in
    let l = last_row own c.loop-len.len c.loop-len-test.true t.within c.index-own-len.is in
    let place = c.place-place.ensures
    ∙ ap (λ (row : ℕ). slice_index_or self.places.items row no_place) c.as_usize.ensures.value in
    record {
      within = t.within;
      same = t.same;
      least =
          trimmed_least self.places_are (once_apart lead self.once) (once_apart own c.requires.once) t l
          (subst (λ p. c.loop-len.met ≤ p) place c.if-place-met.true);
    }

pub returns : goal.returns
returns c = grind (arith, common_steps)
