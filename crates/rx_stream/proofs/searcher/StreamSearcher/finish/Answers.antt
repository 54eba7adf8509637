use Rattle.rx_spec.proofs.Prelude.{sym, ◌∙◌, None, Some}
use Rattle.rx_search.specs.Starts.{IsId}
use Rattle.rx_search.proofs.Cursors.{held_by, held_row, at_same, turned}
use Rattle.rx_stream.specs.Calls.{IsNextPattern}
use Rattle.rx_stream.proofs.Finish.{end_place, finish_over, finish_found, finish_nothing}
use Rattle.rx_stream.proofs.searcher.StreamSearcher.finish.Goals as goal

pub returns-then-is_ended-clause-finished : goal.returns-then-is_ended-clause-finished
returns-then-is_ended-clause-finished g c =
    let a = g.A.Automaton in
    let self = c.args.self.now in
    let told = rw c.closed-self.ensures at c.in_default.ensures.told in
    finish_over (a.table self.table) (a.ids self.table) self.place told
    (sym c.is_ended.ensures ∙ c.if-is_ended.true)

pub returns-in-Some-next_pattern-clause-finished : goal.returns-in-Some-next_pattern-clause-finished
returns-in-Some-next_pattern-clause-finished g c =
    let a = g.A.Automaton in
    let met = g.met.A.Automaton in
    let self = c.args.self.now in
    let here = c.next_pattern.new.self in
    let held = held_by met.sound met.are_ids self.table self.sound in
    let same = c.next_pattern.ensures.table in
    let none = rw c.closed-self.ensures at c.in_default.ensures.told in
    let next = c.next_eoi_state-row.ensures in
    let id = c.next_eoi_state-row.result in
    let row = here.place.row in
    let turn = turned a.table a.ids held row id same same next.is_id next.row in
    let standing = held_row held row (at_same a.table a.ids (λ t i. IsId i row) same here.is_id) in
    finish_found none (sym c.is_ended.ensures ∙ c.if-is_ended.false) id turn standing
    (at_same a.table a.ids (λ t i. IsNextPattern t i (end_place id here.place.taken) c.next_pattern-2.new.self.place
    (Some c.in-Some-next_pattern.found)) same c.in-Some-next_pattern.ensures.told)

pub returns-in-None-clause-finished : goal.returns-in-None-clause-finished
returns-in-None-clause-finished g c =
    let a = g.A.Automaton in
    let met = g.met.A.Automaton in
    let self = c.args.self.now in
    let here = c.next_pattern.new.self in
    let held = held_by met.sound met.are_ids self.table self.sound in
    let same = c.next_pattern.ensures.table in
    let none = rw c.closed-self.ensures at c.in_default.ensures.told in
    let next = c.next_eoi_state-row.ensures in
    let id = c.next_eoi_state-row.result in
    let row = here.place.row in
    let turn = turned a.table a.ids held row id same same next.is_id next.row in
    let standing = held_row held row (at_same a.table a.ids (λ t i. IsId i row) same here.is_id) in
    finish_nothing none (sym c.is_ended.ensures ∙ c.if-is_ended.false) id turn standing
    (at_same a.table a.ids (λ t i. IsNextPattern t i (end_place id here.place.taken) c.next_pattern-2.new.self.place
    None) same c.in-None.ensures.told)
