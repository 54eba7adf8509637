use Rattle.rx_spec.proofs.Prelude.{◌∷◌, ℕ, ap, sym, ◌∙◌, arith, eqb-true, row_of, Label}
use Rattle.rx_search.proofs.Standing.{standing}
use Rattle.rx_prefilter.proofs.Telling.{first_told}
use Rattle.rx_prefilter.proofs.only.told_at.Goals as goal

pub match_pattern-requires-clause-within : goal.match_pattern-requires-clause-within
match_pattern-requires-clause-within g c =
    let s = standing c.next_eoi_state-told.result (g.met.A.Automaton.sound c.args.dfa.now c.requires.sound)
    (g.met.A.Automaton.are_ids c.args.dfa.now) c.next_eoi_state-told.ensures.is_id in
    let is = sym c.is_match_state.ensures ∙ c.if-not-is_match_state.false in
    let first = first_told s is in omega arith

pub returns : goal.returns
returns g c =
    let ids = g.A.Automaton.ids c.args.dfa.now in
    let told = c.next_eoi_state-told.result in
    let s = standing told (g.met.A.Automaton.sound c.args.dfa.now c.requires.sound)
    (g.met.A.Automaton.are_ids c.args.dfa.now) c.next_eoi_state-told.ensures.is_id in
    let is = sym c.is_match_state.ensures ∙ c.if-not-is_match_state.false in
    let first = first_told s is in
    let dead = eqb-true (row_of ids c.next_eoi_state-behind.result) 0
    (sym c.is_dead_state.ensures ∙ c.if-not-is_dead_state.false) in
    record {
      told = row_of ids told;
      leads = c.leads_only_to.ensures c.if-not-leads_only_to.false;
      others = first.others;
      label = first.label ∙ ap (λ (k : ℕ). Label.Matches (k ∷ first.others)) (sym c.match_pattern.ensures);
      is_final = record {
        to_dead = λ unit h.
            c.leads_only_to-else-not-is_dead_state.ensures
            c.if-not-leads_only_to-2.false unit h
            ∙ dead;
      };
    }
