-- What a turn and a skip add to the units that are counted.
use Rattle.rx_spec.proofs.Prelude.{common_steps, ◌≡◌, ℕ, ◌+◌, ◌≤◌, ◌||◌, Bool, true, false, if◌then◌else◌, Some, Ok}
use Rattle.rx_spec.proofs.Prelude.{◌≢◌, List, [], ◌∷◌, length, refl, ap, sym, ◌∙◌, arith, drop, or_right, AreBytes}
use Rattle.rx_spec.proofs.Prelude.{Query, Label, Table, next_offset}
use Rattle.rx_spec.specs.declared.Direction.{Direction}
use Rattle.rx_search.specs.Needles.{is_nil, byte_ahead, is_read, Skips}
use Rattle.rx_search.specs.Walks.{last_offset, units_left}
use Rattle.rx_search.specs.Counted.{ends_at, counts, IsReady, counted, counted_on}
use Rattle.rx_search.proofs.Standing.{Standing}
use Rattle.rx_search.proofs.Walks.{Place, units_left-more, next_place, byte_there, IsQuiet, Turn, loops, unread_alive}
use Rattle.rx_search.proofs.Walks.{Step, step_units, step_after, LastStep, last_units, skip_keeps}

pub counted-nil : (t : Table) (earliest : Bool) (row : ℕ) → counted t earliest row [] ≡ 0
unfolding counted
counted-nil t earliest row = refl

pub counted-cons : (t : Table) (earliest : Bool) (row unit : ℕ) (units : List ℕ)
    → counted t earliest row (unit ∷ units)
    ≡ (if counts t row unit units then 1 else 0)
    + (if ends_at t earliest (t.machine.next row unit) then 0 else counted t earliest (t.machine.next row unit) units)
unfolding counted
counted-cons t earliest row unit units = refl

-- a walk doesn't end at a quiet row
pub quiet_goes_on : {t : Table} {row : ℕ} (earliest : Bool) → IsQuiet t row → ends_at t earliest row ≡ false
quiet_goes_on {t} {row} earliest is = grind (arith, common_steps)

-- nor at a match row, where the last match is searched for
pub match_goes_on : (t : Table) (row : ℕ) {ks : List ℕ} → t.machine.label row ≡ Label.Matches ks
    → t.machine.is_dead row ≡ false → ends_at t false row ≡ false
match_goes_on t row {ks} label alive = grind (arith, common_steps)

module _ (t : Table) (earliest : Bool) {row unit next : ℕ} (turn : Turn t row unit next) (units : List ℕ) where
  abbrev count_on : Bool → Bool → ℕ → ℕ
  count_on one ended n = (if one then 1 else 0) + (if ended then 0 else counted t earliest n units)

  -- a unit that counts is one more than what counts behind it
  pub counted-one : counts t row unit units ≡ true
      → counted t earliest row (unit ∷ units)
      ≡ 1 + (if ends_at t earliest next then 0 else counted t earliest next units)
  counted-one one = grind (arith, common_steps, counted-cons)

  pub counted-none : counts t row unit units ≡ false → ends_at t earliest next ≡ false
      → counted t earliest row (unit ∷ units) ≡ counted t earliest next units
  counted-none none on = grind (arith, common_steps, counted-cons)

-- no unit counts more than once
pub counted_few : (t : Table) (earliest : Bool) (row : ℕ) (units : List ℕ)
    → counted t earliest row units ≤ length units
counted_few t earliest row [] = omega (arith, counted-nil t earliest row)
counted_few t earliest row (unit ∷ units) =
    let next = t.machine.next row unit in
    at_most (counts t row unit units) (ends_at t earliest next) (counted_few t earliest next units)
    (counted-cons t earliest row unit units)
  where
    at_most : (one ended : Bool) {n later : ℕ} → later ≤ length units
        → n ≡ (if one then 1 else 0) + (if ended then 0 else later) → n ≤ length (unit ∷ units)
    at_most true true few e = omega arith
    at_most true false few e = omega arith
    at_most false true few e = omega arith
    at_most false false few e = omega arith

-- the next unit counts
some_counted : (t : Table) (earliest : Bool) (row unit : ℕ) (units : List ℕ) → counts t row unit units ≡ true
    → 1 ≤ counted t earliest row (unit ∷ units)
some_counted t earliest row unit units one = grind (arith, common_steps, counted-cons)

pub read_counts : (t : Table) (row unit : ℕ) (units : List ℕ)
    → is_read t row unit ≡ true → counts t row unit units ≡ true
read_counts t row unit units read = or_right (is_nil units) (is_read t row unit) read

-- ---- what is left to be counted

-- where what may be skipped was skipped, and at the last unit
pub ready_counts : (t : Table) (direction : Direction) (earliest : Bool) (row : ℕ) {q : Query} {offset : ℕ}
    → Place q offset → offset ≢ last_offset direction q → IsReady t direction q row offset
    → 1 ≤ counted t earliest row (units_left direction q offset)
ready_counts t direction earliest row {q} {offset} place more is_ready =
    grind (arith, common_steps, units_left-more, some_counted)

pub last_counts : (t : Table) (direction : Direction) (earliest : Bool) (row : ℕ) (q : Query) → q.start ≤ q.end
    → q.end ≤ length q.haystack → 1 ≤ counted t earliest row (units_left direction q (last_offset direction q))
last_counts t direction earliest row q order fits = grind (arith, common_steps, some_counted)

-- ---- turns of a search

-- a byte that may not be skipped is one more than what counts after it
pub step_counted : {t : Table} {direction : Direction} {q : Query} {row offset next : ℕ} (earliest : Bool)
    → Step t direction q row offset next → IsReady t direction q row offset
    → counted t earliest row (units_left direction q offset)
    ≡ 1 + (if ends_at t earliest next then 0
    else counted t earliest next (units_left direction q (next_offset direction offset)))
step_counted {t} {direction} {q} {row} {offset} earliest s is_ready =
    let later = units_left direction q (next_offset direction offset) in
    ap (counted t earliest row) (step_units s)
    ∙ counted-one t earliest s.turn later
    (read_counts t row (byte_ahead direction q.haystack offset) later (is_ready s.more))

-- where the walk goes on, and where it doesn't
pub step_quiet_counted : {t : Table} {direction : Direction} {q : Query} {row offset next : ℕ} (earliest : Bool)
    → Step t direction q row offset next → IsQuiet t next → IsReady t direction q row offset
    → counted t earliest row (units_left direction q offset)
    ≡ 1 + counted t earliest next (units_left direction q (next_offset direction offset))
step_quiet_counted {t} {direction} {q} {row} {offset} {next} earliest s is is_ready =
    step_counted earliest s is_ready
    ∙ ap (λ (ended : Bool). 1 + (if ended then 0
    else counted t earliest next (units_left direction q (next_offset direction offset)))) (quiet_goes_on earliest is)

pub step_match_counted : {t : Table} {direction : Direction} {q : Query} {row offset next : ℕ}
    → Step t direction q row offset next → IsReady t direction q row offset
    → counted t q.earliest row (units_left direction q offset) ≡ 1 + counted_on t direction q next (Ok (Some offset))
step_match_counted {t} {direction} {q} {row} {offset} {next} s is_ready =
    step_counted q.earliest s is_ready
    ∙ ap (λ (units : List ℕ). 1 + (if ends_at t q.earliest next then 0 else counted t q.earliest next units))
    (sym (step_after s))

-- the last unit is one
pub last_counted : {t : Table} {direction : Direction} {q : Query} {row unit next : ℕ} (earliest : Bool)
    → LastStep t direction q row unit next
    → counted t earliest row (units_left direction q (last_offset direction q)) ≡ 1
last_counted {t} {direction} {q} {row} {unit} {next} earliest s =
    ap (counted t earliest row) (last_units s) ∙ counted-one t earliest s.turn [] refl
    ∙ by_end (ends_at t earliest next)
  where
    by_end : (ended : Bool) → 1 + (if ended then 0 else counted t earliest next []) ≡ 1
    by_end true = refl
    by_end false = ap (λ (n : ℕ). 1 + n) (counted-nil t earliest next)

pub last_match_counted : {t : Table} {direction : Direction} {q : Query} {row unit next : ℕ}
    → LastStep t direction q row unit next
    → counted_on t direction q next (Ok (Some (last_offset direction q))) ≡ 0
last_match_counted {t} {direction} {q} {row} {unit} {next} s =
    ap (λ (units : List ℕ). if ends_at t q.earliest next then 0 else counted t q.earliest next units)
    (ap (drop 1) (last_units s))
    ∙ by_end (ends_at t q.earliest next)
  where
    by_end : (ended : Bool) → (if ended then 0 else counted t q.earliest next []) ≡ 0
    by_end true = refl
    by_end false = counted-nil t q.earliest next

-- ---- skips

-- what is left of a span isn't nothing
some_left : (direction : Direction) (q : Query) (offset : ℕ) → q.start ≤ q.end → Place q offset
    → is_nil (units_left direction q offset) ≡ false
some_left direction q offset order p = grind (arith, common_steps)

pub skip_counts : {t : Table} {row : ℕ} (earliest : Bool) (direction : Direction) (q : Query) → Standing t row
    → (t.machine.is_dead row ≡ false → ends_at t earliest row ≡ false)
    → AreBytes q.haystack → {from to : ℕ} → q.start ≤ q.end → Place q from
    → Skips t direction q row from to
    → counted t earliest row (units_left direction q from) ≡ counted t earliest row (units_left direction q to)
skip_counts {t} {row} earliest direction q s on bytes order p skips =
    skip_keeps t row direction q (λ o. counted t earliest row (units_left direction q o))
    (λ o place ne unread.
    let byte = byte_ahead direction q.haystack o in
    let later = units_left direction q (next_offset direction o) in
    let turn : Turn t row byte row
    = record { leads = sym (loops s byte (byte_there direction place bytes ne) unread); standing = s } in
    let none = ap (λ (nil : Bool). nil || is_read t row byte)
    (some_left direction q (next_offset direction o) order (next_place direction place ne)) ∙ unread in
    ap (counted t earliest row) (units_left-more direction place ne)
    ∙ counted-none t earliest turn later none (on (unread_alive s byte unread)))
    p skips
