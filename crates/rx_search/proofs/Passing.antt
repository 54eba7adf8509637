-- Walks over bytes that lead to ordinary rows alone: one behind another is one, and the next stop is the same.
use Rattle.rx_spec.proofs.Prelude.{rules, ◌≡◌, ◌≢◌, ℕ, suc, zero, ◌+◌, ◌-◌, ◌<◌, ◌≤◌, Bool, true, false, if◌then◌else◌}
use Rattle.rx_spec.proofs.Prelude.{List, length, refl, ap, ap₂, sym, ◌∙◌, subst, arith, ⊎_elim, common_steps, cases_lt}
use Rattle.rx_spec.proofs.Prelude.{◌==◌, not, AreBytes, row_of, Machine, Table, Query, next_offset}
use Rattle.rx_spec.specs.declared.Direction.{Direction}
use Rattle.rx_search.specs.Needles.{byte_ahead, offset_after}
use Rattle.rx_search.specs.Passing.{row_on, IsFarthest, Leads, Passes}
use Rattle.rx_search.specs.Starts.{IsId}
use Rattle.rx_search.specs.Walks.{last_offset, bytes_left, units_left, next_stop}
use Rattle.rx_search.specs.Counted.{IsReady, counts, counted}
use Rattle.rx_search.proofs.Standing.{Standing}
use Rattle.rx_search.proofs.Walks.{Place, next_place, next_left, Turn, Step, step_quiet, step_units, ordinary}
use Rattle.rx_search.proofs.Walks.{unaccelerated, byte_there, none_left, offset_after-zero}
use Rattle.rx_search.proofs.Counting.{counted-cons, quiet_goes_on}
use Rattle.rx_search.proofs.Needles.{stays}
use Rattle.rx_search.proofs.Progress.{Standpoint, Progress}
use Rattle.rx_search.proofs.Cursors.{Held, held_row, at_same}

-- ---- one behind another

after-suc : (direction : Direction) (offset n : ℕ)
    → next_offset direction (offset_after direction offset n) ≡ offset_after direction offset (suc n)
after-suc Direction.Forward offset n = omega arith
after-suc Direction.Reverse offset n = omega arith

after-add : (direction : Direction) (offset n k : ℕ)
    → offset_after direction (offset_after direction offset n) k ≡ offset_after direction offset (n + k)
after-add Direction.Forward offset n k = omega arith
after-add Direction.Reverse offset n k = omega arith

row_on-zero : (m : Machine ℕ) (direction : Direction) (haystack : List ℕ) (row offset : ℕ)
    → row_on m direction haystack row offset 0 ≡ row
unfolding row_on
row_on-zero m direction haystack row offset = refl

row_on-add : (m : Machine ℕ) (direction : Direction) (haystack : List ℕ) (row offset n k : ℕ)
    → row_on m direction haystack (row_on m direction haystack row offset n) (offset_after direction offset n) k
    ≡ row_on m direction haystack row offset (n + k)
unfolding row_on
row_on-add m direction haystack row offset n zero = grind (arith, common_steps)
row_on-add m direction haystack row offset n (suc k) =
    let same : suc (n + k) ≡ n + suc k = omega arith in
    ap₂ (λ (r o : ℕ). m.next r (byte_ahead direction haystack o))
    (row_on-add m direction haystack row offset n k) (after-add direction offset n k)
    ∙ ap (row_on m direction haystack row offset) same

module _ (t : Table) (direction : Direction) (haystack : List ℕ) where
  pub leads_none : (row offset : ℕ) → Leads t direction haystack row offset row 0
  unfolding row_on
  leads_none row offset = record { next_is = refl; ordinary = λ k h. absurd (omega arith) }

  -- the row to which the next byte leads
  next_on : {row offset next count : ℕ} (more : ℕ) → Leads t direction haystack row offset next count
      → more ≡ t.machine.next next (byte_ahead direction haystack (offset_after direction offset count))
      → more ≡ row_on t.machine direction haystack row offset (count + 1)
  unfolding row_on
  next_on {row} {offset} {next} {count} more l leads = grind (arith, common_steps)

  -- it is special
  pub leads_no_further : {row offset next count bytes : ℕ} (more : ℕ) → Leads t direction haystack row offset next count
      → more ≡ t.machine.next next (byte_ahead direction haystack (offset_after direction offset count))
      → t.is_special more ≡ true
      → IsFarthest t direction haystack row offset count bytes
  leads_no_further more l leads special = record { stops = λ _. ap t.is_special (sym (next_on more l leads)) ∙ special }

  -- one byte more
  pub leads_more : {row offset next count : ℕ} (more : ℕ) → Leads t direction haystack row offset next count
      → more ≡ t.machine.next next (byte_ahead direction haystack (offset_after direction offset count))
      → t.is_special more ≡ false
      → Leads t direction haystack row offset more (count + 1)
  leads_more {row} {offset} {next} {count} more l leads plain = search (rules, next_on)

  joined_on : {row offset mid n : ℕ} → Leads t direction haystack row offset mid n → (i : ℕ)
      → row_on t.machine direction haystack mid (offset_after direction offset n) i
      ≡ row_on t.machine direction haystack row offset (n + i)
  joined_on {row} {offset} {mid} {n} l i = grind (arith, common_steps, row_on-add)

  -- where a walk goes on from the row and the offset that another has reached, both are one
  pub leads_on : {row offset mid n next k : ℕ} → Leads t direction haystack row offset mid n
      → Leads t direction haystack mid (offset_after direction offset n) next k
      → Leads t direction haystack row offset next (n + k)
  leads_on {row} {offset} {mid} {n} {next} {k} l more = record {
    next_is = more.next_is ∙ joined_on l k;
    ordinary = λ j h.
        ⊎_elim
        (λ (before : j < n). l.ordinary j before)
        (λ (behind : n ≤ j).
        let same : n + ((j - n) + 1) ≡ j + 1 = omega arith in
        ap (λ (i : ℕ). t.is_special (row_on t.machine direction haystack row offset i)) (sym same)
        ∙ ap t.is_special (sym (joined_on l ((j - n) + 1)))
        ∙ more.ordinary (j - n) (omega arith))
        (cases_lt j n);
  }

  -- both stop where the later one does
  pub no_further_on : {row offset mid n k bytes all : ℕ} → Leads t direction haystack row offset mid n
      → IsFarthest t direction haystack mid (offset_after direction offset n) k bytes → k < bytes
      → IsFarthest t direction haystack row offset (n + k) all
  no_further_on {row} {offset} {mid} {n} {k} l farthest more =
      let same : n + (k + 1) ≡ n + k + 1 = omega arith in record {
        stops = λ _.
            ap (λ (i : ℕ). t.is_special (row_on t.machine direction haystack row offset i)) (sym same)
            ∙ ap t.is_special (sym (joined_on l (k + 1))) ∙ farthest.stops more;
      }

  -- a walk that begins elsewhere than where another has come, but at the same row
  pub leads_through : {row offset first entry start next n k : ℕ} → Leads t direction haystack row offset first n
      → first ≡ entry → start ≡ offset_after direction offset n → Leads t direction haystack entry start next k
      → Leads t direction haystack row offset next (n + k)
  leads_through {row} {offset} {first} {entry} {start} {next} {n} {k} l same there more =
      leads_on l
      (subst (λ (o : ℕ). Leads t direction haystack first o next k) there
      (subst (λ (r : ℕ). Leads t direction haystack r start next k) (sym same) more))

-- two ids that don't differ
pub same_id : (a b : ℕ) {told : Bool} → told ≡ not (a == b) → told ≡ false → a ≡ b
same_id a b {told} tells is = grind (arith, common_steps)

-- ---- the next stop

-- so many bytes of a span have led from a row and an offset to others, from which a walk stops where it would have
record Way (t : Table) (direction : Direction) (q : Query) (row from next to count : ℕ) : Type 0 where
  place : Place q to
  left : bytes_left direction q to + count ≡ bytes_left direction q from
  standing : Standing t next
  stop : next_stop t.machine direction row from (units_left direction q from)
      ≡ next_stop t.machine direction next to (units_left direction q to)
  count_less : counted t q.earliest next (units_left direction q to)
      ≤ counted t q.earliest row (units_left direction q from)

way : {t : Table} {direction : Direction} {q : Query} {row from : ℕ} → Standing t row → AreBytes q.haystack
    → Place q from → (count : ℕ) → count ≤ bytes_left direction q from
    → ((k : ℕ) → k < count → t.is_special (row_on t.machine direction q.haystack row from (k + 1)) ≡ false)
    → Way t direction q row from (row_on t.machine direction q.haystack row from count)
    (offset_after direction from count) count
unfolding row_on
way {t} {direction} {q} {row} {from} s bytes p zero enough plain = grind (arith, common_steps, offset_after-zero)
way {t} {direction} {q} {row} {from} s bytes p (suc n) enough plain =
    let w = way s bytes p n (omega arith) (λ k h. plain k (omega arith)) in
    let at = offset_after direction from n in
    let here = row_on t.machine direction q.haystack row from n in
    let byte = byte_ahead direction q.haystack at in
    let next = t.machine.next here byte in
    let more : at ≢ last_offset direction q
    = λ e. let none = ap (bytes_left direction q) e ∙ none_left direction q in omega arith in
    let small = byte_there direction w.place bytes more in
    let turn : Turn t here byte next = record {
      leads = refl;
      standing = record {
        sound = s.sound;
        below = s.sound.is_table.nexts here byte w.standing.below (omega arith);
      };
    } in
    let step : Step t direction q here at next = record { place = w.place; more = more; turn = turn } in
    let one : n + 1 ≡ suc n = omega arith in
    let unspecial = ap (λ (i : ℕ). t.is_special (row_on t.machine direction q.haystack row from i)) (sym one)
    ∙ plain n (omega arith) in
    let quiet = ordinary turn.standing unspecial in
    let on = next_offset direction at in
    let later = units_left direction q on in
    let counts_on = ap (counted t q.earliest here) (step_units step) ∙ counted-cons t q.earliest here byte later
    ∙ ap (λ (ended : Bool). (if counts t here byte later then 1 else 0)
    + (if ended then 0 else counted t q.earliest next later)) (quiet_goes_on q.earliest quiet) in
    let left = next_left direction w.place more in
    subst (λ (o : ℕ). Way t direction q row from next o (suc n)) (after-suc direction from n)
    (record {
      place = next_place direction w.place more;
      left = omega arith;
      standing = turn.standing;
      stop = w.stop ∙ step_quiet step quiet;
      count_less = omega arith;
    })

module _ {t : Table} {direction : Direction} {q : Query} {row from next to : ℕ} (s : Standing t row)
    (bytes : AreBytes q.haystack) (p : Place q from) (passes : Passes t direction q row from next to) where
  abbrev Ready : Type 0
  Ready = IsReady t direction q row from → IsReady t direction q next to

  passed : Way t direction q row from next to passes.count
  passed = grind (arith, common_steps, way)

  -- it has skipped what may be skipped: no row on the way has needles
  passed_ready : Ready
  passed_ready = by_count passes.count passes.leads passes.there passed
    where
      by_count : (count : ℕ) → Leads t direction q.haystack row from next count
          → to ≡ offset_after direction from count → Way t direction q row from next to count → Ready
      by_count zero leads there w = grind (arith, common_steps, offset_after-zero, row_on-zero)
      by_count (suc n) leads there w =
          let one : n + 1 ≡ suc n = omega arith in
          let plain = ap t.is_special leads.next_is
          ∙ ap (λ (i : ℕ). t.is_special (row_on t.machine direction q.haystack row from i)) (sym one)
          ∙ leads.ordinary n (omega arith) in
          λ r. (stays w.standing direction q to w.place.in_span (unaccelerated w.standing plain)).is_ready

-- a walk that stays
pub passes_none : (t : Table) (direction : Direction) (q : Query) (row from : ℕ)
    → Passes t direction q row from row from
passes_none t direction q row from = grind (arith, common_steps, leads_none, offset_after-zero)

pub progress_pass : {t : Table} {direction : Direction} {q : Query} {first now : Standpoint} {next to : ℕ}
    → Progress t direction q first now → Standing t now.row → AreBytes q.haystack → q.end ≤ length q.haystack
    → Passes t direction q now.row now.offset next to
    → Progress t direction q first (record { row = next; offset = to; steps = now.steps })
progress_pass {t} {direction} {q} {first} {now} p s bytes fits passes =
    let place : Place q now.offset = record { fits = fits; in_span = p.in_span } in
    let w = passed s bytes place passes in
    record {
      in_span = w.place.in_span;
      on = omega arith;
      room = omega arith;
      stop = p.stop ∙ w.stop;
      is_ready = λ r. passed_ready s bytes place passes (p.is_ready r);
      count = λ r. omega arith;
    }

-- the same of a cursor, which keeps its table
pub progress_passed : {A : Type 0} (table : A → Table) (ids : A → List ℕ) {first here : A} {direction : Direction}
    {q : Query} {start : Standpoint} {offset to steps : ℕ} → Held (table first) (ids first) → here ≡ first
    → AreBytes q.haystack → q.end ≤ length q.haystack → (row next : ℕ) → IsId (ids here) row
    → Progress (table first) direction q start
    (record { row = row_of (ids first) row; offset = offset; steps = steps })
    → Passes (table here) direction q (row_of (ids here) row) offset (row_of (ids here) next) to
    → Progress (table first) direction q start
    (record { row = row_of (ids first) next; offset = to; steps = steps })
progress_passed table ids {direction = direction} {q = q} {offset = offset} {to = to} held same bytes fits row next is p
    passes =
    progress_pass p (held_row held row (at_same table ids (λ t i. IsId i row) same is)) bytes fits
    (at_same table ids (λ t i. Passes t direction q (row_of i row) offset (row_of i next) to) same passes)
