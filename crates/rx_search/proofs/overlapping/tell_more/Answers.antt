use Rattle.rx_spec.proofs.Prelude.{rules, ◌≡◌, ℕ, slice_index, sym, ◌∙◌, ap, subst, arith, length, List, common_steps}
use Rattle.rx_spec.proofs.Prelude.{row_of, overlapping_walk, Table}
use Rattle.rx_base.specs.Input.{query_of}
use Rattle.rx_search.specs.Labels.{patterns_of}
use Rattle.rx_search.specs.OverlappingCalls.{Call, next_call, IsTold, remaining_matches}
use Rattle.rx_search.specs.Walks.{units_left}
use Rattle.rx_search.proofs.Cursors.{held_by, held_row}
use Rattle.rx_search.proofs.Halves.{Open}
use Rattle.rx_search.proofs.Overlaps.{told_within, none_remaining, over_at, goes_on_at}
use Rattle.rx_search.proofs.overlapping.tell_more.Goals as goal

-- what a cursor that stands at a row tells of it
row_tells : {A : Type 0} (table : A → Table) (ids : A → List ℕ) {first other : A} {row row' told : ℕ}
    (value : Table → ℕ → ℕ) → other ≡ first → row' ≡ row → told ≡ value (table other) (row_of (ids other) row')
    → told ≡ value (table first) (row_of (ids first) row)
row_tells table ids {first} {other} {row} {row'} {told} value same same_row tells = grind (arith, common_steps)

pub returns-then-met-match_len-clause-told : goal.returns-then-met-match_len-clause-told
returns-then-met-match_len-clause-told g c =
    let a = g.A.Automaton in
    let met = g.met.A.Automaton in
    let t = a.table c.args.dfa.now in
    let q = query_of c.args.input.now in
    let here = c.args.met in
    let is = c.requires.met in
    let there = held_row (held_by met.sound met.are_ids c.args.dfa.now c.requires.sound) here.row is.is_id in
    let at = c.at-cursor.ensures in
    let count = row_tells (λ x. a.table x.now) (λ x. a.ids x.now) (λ t row. length (patterns_of t row)) at.table at.row
    c.match_len.ensures in
    let pattern = row_tells (λ x. a.table x.now) (λ x. a.ids x.now)
    (λ t row. slice_index (patterns_of t row) here.told) at.table at.row c.pattern.ensures in
    subst (IsTold t q) (sym (c.new.ensures ∙ ap (λ (k : ℕ). record { pattern = k; offset = here.offset }) pattern))
    (told_within there is.is_match c.args.direction q here.offset is.in_span here.told
    (omega arith))

pub returns-then-met-last_offset-clause-call : goal.returns-then-met-last_offset-clause-call
returns-then-met-last_offset-clause-call g c = search (rules, held_row, none_remaining, over_at)

pub returns-clause-call : goal.returns-clause-call
returns-clause-call g c =
    let a = g.A.Automaton in
    let met = g.met.A.Automaton in
    let t = a.table c.args.dfa.now in
    let ids = a.ids c.args.dfa.now in
    let q = query_of c.args.input.now in
    let d = c.args.direction in
    let here = c.args.met in
    let is = c.requires.met in
    let there = held_row (held_by met.sound met.are_ids c.args.dfa.now c.requires.sound) here.row is.is_id in
    let at = c.at-cursor.ensures in
    let count = row_tells (λ x. a.table x.now) (λ x. a.ids x.now) (λ t row. length (patterns_of t row)) at.table at.row
    c.match_len.ensures in
    let span : Open q = record { order = omega arith; fits = c.requires.fits.within } in
    let called : Table → List ℕ → Call = λ t ids. record {
      result = c.tell_next.result;
      told = c.tell_next.new.state.told;
      left = remaining_matches t ids d q c.tell_next.new.state;
    } in
    let walked = λ (t : Table) (ids : List ℕ) (row o : ℕ).
    next_call (overlapping_walk t.machine d (row_of ids row) o (units_left d q o)) in
    grind (arith, common_steps, goes_on_at)
