use Rattle.rx_spec.proofs.Prelude.{common_steps, ◌≡◌, ℕ, ◌≤◌, ◌==◌, sym, ◌∙◌, ap, subst, arith, length, List, Bool}
use Rattle.rx_spec.proofs.Prelude.{row_of, next_offset, unit_offset, Query, Table, is_match, AreBytes}
use Rattle.rx_spec.specs.declared.Direction.{Direction}
use Rattle.rx_base.specs.Input.{query_of}
use Rattle.rx_base.specs.Unit.{unit_number}
use Rattle.rx_search.specs.Labels.{is_quit}
use Rattle.rx_search.specs.Needles.{byte_ahead}
use Rattle.rx_search.specs.Starts.{IsId}
use Rattle.rx_search.specs.Walks.{IsInSpan, last_offset, unit_ahead}
use Rattle.rx_search.proofs.Needles.{stays}
use Rattle.rx_search.proofs.Walks.{stepped, Step, LastStep, next_place, Turn, bytes_of, ordinary, unaccelerated, quiet}
use Rattle.rx_search.proofs.Walks.{eoi_no_quit}
use Rattle.rx_search.proofs.Cursors.{held_by, held_row, at_same, known, skips_at, turned}
use Rattle.rx_search.proofs.Progress.{Progress, has_room, has_room_last, progress_on, met_stop, met_count, end_count}
use Rattle.rx_search.proofs.Progress.{quit_stop, end_stop, last_met_stop, last_met_count, last_end_count}
use Rattle.rx_search.proofs.Progress.{last_quit_stop, last_end_stop, quits_at}
use Rattle.rx_search.proofs.Passing.{progress_passed}
use Rattle.rx_search.proofs.walk.next_match.Given as given
use Rattle.rx_search.proofs.walk.next_match.Goals.{After-advance, After-advance-2}
use Rattle.rx_search.proofs.walk.next_match.Goals as goal

-- ---- the cursor has read the byte ahead

module _ (g : given.Over) (c : After-advance g) where
  same_table : c.advance.new.self.table ≡ c.args.cursor.now.table
  same_table = c.advance.ensures.table ∙ c.bytes.invariant.table

  byte_step : Step (g.A.Automaton.table c.args.cursor.now.table) c.args.direction (query_of c.args.input.now)
      (row_of (g.A.Automaton.ids c.args.cursor.now.table) c.bytes.cursor.row) c.bytes.at
      (row_of (g.A.Automaton.ids c.args.cursor.now.table) c.advance.new.self.row)
  byte_step =
      let met = g.met.A.Automaton in
      let held = held_by met.sound met.are_ids c.args.cursor.now.table c.args.cursor.now.sound in
      let inv = c.bytes.invariant in
      stepped (record { fits = c.requires.within; in_span = inv.progress.in_span }) c.last_offset-last.ensures
      c.bytes-test.true c.haystack-haystack.ensures c.byte_ahead-byte.ensures
      (turned g.A.Automaton.table g.A.Automaton.ids held c.bytes.cursor.row c.advance.new.self.row
      {unit = c.byte_ahead-byte.result} inv.table same_table c.advance.new.self.is_id c.advance.ensures.row)

  -- what a test of the cursor tells of the row
  test_is : (test : Table → ℕ → Bool) {told value : Bool}
      → told ≡ test (g.A.Automaton.table c.advance.new.self.table)
      (row_of (g.A.Automaton.ids c.advance.new.self.table) c.advance.new.self.row)
      → told ≡ value
      → test (g.A.Automaton.table c.args.cursor.now.table)
      (row_of (g.A.Automaton.ids c.args.cursor.now.table) c.advance.new.self.row) ≡ value
  test_is test = known g.A.Automaton.table g.A.Automaton.ids test c.advance.new.self.row same_table

  hay_bytes : AreBytes (query_of c.args.input.now).haystack
  hay_bytes = grind (arith, common_steps, bytes_of)

-- ---- the cursor has read the unit past the span

module _ (g : given.Over) (c : After-advance-2 g) where
  same_table_last : c.advance-2.new.self.table ≡ c.args.cursor.now.table
  same_table_last = c.advance-2.ensures.table ∙ c.bytes.invariant.table

  last_step : LastStep (g.A.Automaton.table c.args.cursor.now.table) c.args.direction (query_of c.args.input.now)
      (row_of (g.A.Automaton.ids c.args.cursor.now.table) c.bytes.cursor.row) (unit_number c.unit_ahead-unit.result)
      (row_of (g.A.Automaton.ids c.args.cursor.now.table) c.advance-2.new.self.row)
  last_step =
      let met = g.met.A.Automaton in
      let held = held_by met.sound met.are_ids c.args.cursor.now.table c.args.cursor.now.sound in
      let inv = c.bytes.invariant in
      last_stepped inv.progress.in_span c.requires.within c.last_offset-last.ensures c.haystack-haystack.ensures
      c.unit_ahead-unit.ensures
      (turned g.A.Automaton.table g.A.Automaton.ids held c.bytes.cursor.row c.advance-2.new.self.row
      {unit = unit_number c.unit_ahead-unit.result} inv.table same_table_last c.advance-2.new.self.is_id
      c.advance-2.ensures.row)
    where
      -- the step, as it is known of the unit there
      last_stepped : {t : Table} {direction : Direction} {q : Query} {row next offset unit last : ℕ} {hay : List ℕ}
          → IsInSpan q offset → q.end ≤ length q.haystack → last ≡ last_offset direction q → hay ≡ q.haystack
          → unit ≡ unit_ahead direction hay last → Turn t row unit next → LastStep t direction q row unit next
      last_stepped {t} {direction} is fits last_is hay_is unit_is turn = grind (arith, common_steps)

  test_is_last : (test : Table → ℕ → Bool) {told value : Bool}
      → told ≡ test (g.A.Automaton.table c.advance-2.new.self.table)
      (row_of (g.A.Automaton.ids c.advance-2.new.self.table) c.advance-2.new.self.row)
      → told ≡ value
      → test (g.A.Automaton.table c.args.cursor.now.table)
      (row_of (g.A.Automaton.ids c.args.cursor.now.table) c.advance-2.new.self.row) ≡ value
  test_is_last test = known g.A.Automaton.table g.A.Automaton.ids test c.advance-2.new.self.row same_table_last

-- ---- what is asked of the calls

pub byte_ahead-byte-requires : goal.byte_ahead-byte-requires
byte_ahead-byte-requires g c = grind (arith, common_steps)

pub advance-requires : goal.advance-requires
advance-requires g c =
    has_room c.bytes.invariant.progress c.requires.room c.requires.within
    (λ e. c.bytes-test.true (e ∙ sym c.last_offset-last.ensures))

pub advance-requires-2 : goal.advance-requires-2
advance-requires-2 g c =
    has_room_last c.bytes.invariant.progress c.requires.room c.requires.within
    (c.bytes-test.false ∙ c.last_offset-last.ensures)

pub bytes-init : goal.bytes-init
bytes-init g c = grind (arith, common_steps)

pub bytes-preserved-then-not-is_special : goal.bytes-preserved-then-not-is_special
bytes-preserved-then-not-is_special g c =
    let a = g.A.Automaton in
    let met = g.met.A.Automaton in
    let held = held_by met.sound met.are_ids c.args.cursor.now.table c.args.cursor.now.sound in
    let t = a.table c.args.cursor.now.table in
    let ids = a.ids c.args.cursor.now.table in
    let q = query_of c.args.input.now in
    let at = (goal.at.bytes-preserved-then-not-is_special g c).After-advance in
    let inv = c.bytes.invariant in
    let next = c.advance.new.self.row in
    let s = byte_step g at in
    let none = test_is g at (λ (u : Table) (r : ℕ). u.is_special r)
    c.is_special.ensures c.if-not-is_special.true in
    let there = next_place c.args.direction s.place s.more in
    let on = progress_on inv.progress s (ordinary s.turn.standing none) (hay_bytes g at)
    (next_offset c.args.direction c.bytes.at)
    (stays s.turn.standing c.args.direction q (next_offset c.args.direction c.bytes.at) there.in_span
    (unaccelerated s.turn.standing none)) in
    let way = λ (at steps : ℕ). Progress t c.args.direction q
    (record { row = row_of ids c.args.cursor.now.row; offset = c.args.from; steps = c.args.steps.now })
    (record { row = row_of ids next; offset = at; steps = steps }) in
    let there = subst (λ (at : ℕ). way at c.advance.new.steps) (sym c.next_offset-next.ensures)
    (subst (λ (steps : ℕ). way (next_offset c.args.direction c.bytes.at) steps) (sym c.advance.ensures.counted) on) in
    record {
      table = c.pass-at.ensures.table ∙ same_table g at;
      progress = progress_passed a.table a.ids held (same_table g at) (hay_bytes g at) c.requires.within next
          c.pass-at.new.cursor.row c.advance.new.self.is_id there c.pass-at.ensures.passes;
    }

pub returns-then-is_match : goal.returns-then-is_match
returns-then-is_match g c =
    let at = (goal.at.returns-then-is_match g c).After-advance in
    let inv = c.bytes.invariant in
    let s = byte_step g at in
    let is = test_is g at is_match c.is_match.ensures c.if-is_match.true in
    record {
      table = same_table g at;
      stop = met_stop inv.progress s is;
      counted = λ r. omega (arith, met_count inv.progress s r);
    }

pub returns-then-is_quit : goal.returns-then-is_quit
returns-then-is_quit g c =
    let at = (goal.at.returns-then-is_quit g c).After-advance in
    let inv = c.bytes.invariant in
    let s = byte_step g at in
    let is = test_is g at is_quit c.is_quit.ensures c.if-is_quit.true in
    record {
      table = same_table g at;
      stop = quits_at c.quit.ensures
          (c.byte_ahead-byte.ensures
          ∙ ap (λ hay. byte_ahead c.args.direction hay c.bytes.at) c.haystack-haystack.ensures)
          c.unit_offset.ensures (quit_stop inv.progress s is);
      counted = λ r. omega (arith, end_count inv.progress s r);
    }

pub returns-then-is_dead : goal.returns-then-is_dead
returns-then-is_dead g c =
    let at = (goal.at.returns-then-is_dead g c).After-advance in
    let inv = c.bytes.invariant in
    let s = byte_step g at in
    let no_match = test_is g at is_match c.is_match.ensures c.if-is_match.false in
    let no_quit = test_is g at is_quit c.is_quit.ensures c.if-is_quit.false in
    let dead = test_is g at (λ (u : Table) (r : ℕ). r == 0)
    c.is_dead.ensures c.if-is_dead.true in
    record {
      table = same_table g at;
      stop = end_stop inv.progress s no_match no_quit dead;
      counted = λ r. omega (arith, end_count inv.progress s r);
    }

pub bytes-preserved : goal.bytes-preserved
bytes-preserved g c =
    let a = g.A.Automaton in
    let t = a.table c.args.cursor.now.table in
    let ids = a.ids c.args.cursor.now.table in
    let q = query_of c.args.input.now in
    let at = (goal.at.bytes-preserved g c).After-advance in
    let inv = c.bytes.invariant in
    let next = c.advance.new.self.row in
    let s = byte_step g at in
    let no_match = test_is g at is_match c.is_match.ensures c.if-is_match.false in
    let no_quit = test_is g at is_quit c.is_quit.ensures c.if-is_quit.false in
    let not_dead = test_is g at (λ (u : Table) (r : ℕ). r == 0)
    c.is_dead.ensures c.if-is_dead.false in
    let skips = skips_at a.table a.ids next (same_table g at) c.next_offset.ensures c.skip-at.ensures.skips in
    let on = progress_on inv.progress s (quiet s.turn.standing no_match no_quit not_dead) (hay_bytes g at)
    c.skip-at.result skips in
    record {
      table = same_table g at;
      progress = subst (λ (steps : ℕ). Progress t c.args.direction q
          (record { row = row_of ids c.args.cursor.now.row; offset = c.args.from; steps = c.args.steps.now })
          (record { row = row_of ids next; offset = c.skip-at.result; steps = steps }))
          (sym c.advance.ensures.counted) on;
    }

pub returns-then-is_match-2 : goal.returns-then-is_match-2
returns-then-is_match-2 g c =
    let at = (goal.at.returns-then-is_match-2 g c).After-advance-2 in
    let inv = c.bytes.invariant in
    let s = last_step g at in
    let over = c.bytes-test.false ∙ c.last_offset-last.ensures in
    let is = test_is_last g at is_match c.is_match-2.ensures c.if-is_match-2.true in
    record {
      table = same_table_last g at;
      stop = last_met_stop inv.progress over s c.last_offset-last.ensures is;
      counted = λ r.
          omega (arith, last_met_count inv.progress over s c.last_offset-last.ensures r);
    }

pub returns-in-Eoi : goal.returns-in-Eoi
returns-in-Eoi g c =
    let a = g.A.Automaton in
    let met = g.met.A.Automaton in
    let held = held_by met.sound met.are_ids c.args.cursor.now.table c.args.cursor.now.sound in
    let at = (goal.at.returns-in-Eoi g c).After-advance-2 in
    let inv = c.bytes.invariant in
    let s = last_step g at in
    let over = c.bytes-test.false ∙ c.last_offset-last.ensures in
    let no_match = test_is_last g at is_match c.is_match-2.ensures c.if-is_match-2.false in
    let row = c.bytes.cursor.row in
    let standing = held_row held row
    (at_same a.table a.ids (λ t ids. IsId ids row) inv.table c.bytes.cursor.is_id) in
    let no_quit = eoi_no_quit standing s.turn (ap unit_number c.in-Eoi.is) in
    record {
      table = same_table_last g at;
      stop = last_end_stop inv.progress over s no_match no_quit;
      counted = λ r. omega (arith, last_end_count inv.progress over s r);
    }

pub returns-then-is_quit-2 : goal.returns-then-is_quit-2
returns-then-is_quit-2 g c =
    let at = (goal.at.returns-then-is_quit-2 g c).After-advance-2 in
    let inv = c.bytes.invariant in
    let s = last_step g at in
    let over = c.bytes-test.false ∙ c.last_offset-last.ensures in
    let is = test_is_last g at is_quit c.is_quit-2.ensures c.if-is_quit-2.true in
    record {
      table = same_table_last g at;
      stop = quits_at c.quit-then-is_quit-2.ensures (sym (ap unit_number c.in-Byte.is))
          (c.unit_offset-then-is_quit-2.ensures ∙ ap (unit_offset c.args.direction) c.last_offset-last.ensures)
          (last_quit_stop inv.progress over s is);
      counted = λ r. omega (arith, last_end_count inv.progress over s r);
    }

pub returns : goal.returns
returns g c =
    let at = (goal.at.returns g c).After-advance-2 in
    let inv = c.bytes.invariant in
    let s = last_step g at in
    let over = c.bytes-test.false ∙ c.last_offset-last.ensures in
    let no_match = test_is_last g at is_match c.is_match-2.ensures c.if-is_match-2.false in
    let no_quit = test_is_last g at is_quit c.is_quit-2.ensures c.if-is_quit-2.false in
    record {
      table = same_table_last g at;
      stop = last_end_stop inv.progress over s no_match no_quit;
      counted = λ r. omega (arith, last_end_count inv.progress over s r);
    }
