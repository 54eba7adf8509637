use Rattle.rx_spec.proofs.Prelude.{arith, ◌≡◌, ℕ, slice_index, Some, Ok, drop, refl, sym, ◌∙◌, ap, ap₂, subst}
use Rattle.rx_spec.proofs.Prelude.{common_steps, row_of, OverlappingMatches, remaining, HalfMatch}
use Rattle.rx_base.specs.Input.{query_of}
use Rattle.rx_search.specs.Labels.{patterns_of}
use Rattle.rx_search.specs.OverlappingCalls.{next_call, IsTold, IsMatchRow}
use Rattle.rx_search.specs.declared.overlapping.MetRow.{MetRow}
use Rattle.rx_search.specs.Walks.{units_after}
use Rattle.rx_search.proofs.Cursors.{held_by, reached, some_there, some_told, first_pattern}
use Rattle.rx_search.proofs.Overlaps.{walk_ended, call_fails, walk_met, call_more, told_within}
use Rattle.rx_search.proofs.overlapping.tell_next.Goals as goal

pub pattern-requires-clause-is_match : goal.pattern-requires-clause-is_match
pattern-requires-clause-is_match g c = grind (arith, common_steps)

pub pattern-requires-clause-within : goal.pattern-requires-clause-within
pattern-requires-clause-within g c = grind (arith, common_steps, some_there, reached)

pub returns-in-Err-clause-call : goal.returns-in-Err-clause-call
returns-in-Err-clause-call g c = grind (arith, common_steps, call_fails)

pub returns-in-Ok-None-clause-call : goal.returns-in-Ok-None-clause-call
returns-in-Ok-None-clause-call g c = grind (arith, common_steps, walk_ended)

pub returns-in-Ok-Some : goal.returns-in-Ok-Some
returns-in-Ok-Some g c =
    let a = g.A.Automaton in
    let met = g.met.A.Automaton in
    let t = a.table c.args.cursor.now.table in
    let ids = a.ids c.args.cursor.now.table in
    let q = query_of c.args.input.now in
    let d = c.args.direction in
    let offset = c.in-Ok-Some.offset in
    let held = held_by met.sound met.are_ids c.args.cursor.now.table c.args.cursor.now.sound in
    let next = c.next_match.new.cursor.row in
    let r = reached a.table a.ids held refl c.next_match.ensures.table c.next_match.new.cursor.is_id
    (rw c.in-Ok-Some.field-0-is at c.in-Ok-Some.ensures.stop) in
    let within = some_told a.table a.ids r in
    let met_row : ℕ → MetRow = λ row. record { row = row; offset = offset; told = 1 } in
    let stands : IsMatchRow t ids q (met_row next) =
    record { is_id = r.is_id; is_match = r.met.is_match; in_span = r.met.in_span; within = within } in
    let told : c.new.result ≡ record { pattern = slice_index (patterns_of t (row_of ids next)) 0; offset = offset } =
    c.new.ensures
    ∙ ap (λ (k : ℕ). record { pattern = k; offset = offset }) (first_pattern a.table a.ids r c.pattern.ensures) in
    let left = λ (row : ℕ). remaining t.machine d (drop 1 (patterns_of t (row_of ids row))) offset (row_of ids row)
    (units_after d q offset) in
    record {
      state = subst (λ (row : ℕ). IsMatchRow t ids q (met_row row)) (sym c.row.ensures) stands;
      told =
          subst (IsTold t q) (sym told)
          (told_within r.standing r.met.is_match c.args.direction q offset r.met.in_span 0 within);
      call =
          ap₂ (λ (h : HalfMatch) (left : OverlappingMatches). record { result = Ok tt; told = Some h; left = left })
          told (ap left c.row.ensures)
          ∙ sym (ap next_call (walk_met t d q (row_of ids c.args.cursor.now.row) c.args.from r.standing r.met.is_match
          r.stops)
          ∙ call_more r.standing r.met.is_match d q offset 0 within);
    }
