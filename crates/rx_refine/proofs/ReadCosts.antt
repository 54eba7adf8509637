-- How many reads there are. For a unit the allowance of a row is the size of its block where that waits
-- for the unit, and half of it where it doesn't. Where the unit takes a block, the allowance of each of
-- its rows has one binary digit less; a split raises none.
use Rattle.rx_refine.proofs.Prelude.{AreMoves, List, Moves, Parts, Refines, ap, arith, binary_digits, block_of}
use Rattle.rx_refine.proofs.Prelude.{cases_eq, column, common_steps, cond, eq-eqb, eqb, get_or, get_or-set_other}
use Rattle.rx_refine.proofs.Prelude.{get_or-set_same, how_many, inl, inr, is_in, leb, length, length-digits_of-le}
use Rattle.rx_refine.proofs.Prelude.{length-digits_of_step, mul-le-mul_right, ne_eqb, pow_pos, read_limit, refl, rules}
use Rattle.rx_refine.proofs.Prelude.{set, size_of, sources, suc, sum_by, sym, total, waiting_cost, waiting_reads, zero}
use Rattle.rx_refine.proofs.Prelude.{ℕ, ◌*◌, ◌+◌, ◌/◌, ◌<◌, ◌^◌, ◌∙◌, ◌≡◌, ◌≤◌}
use Rattle.rx_refine.proofs.Blocks.{is_in_members, members, members_apart, members_small}
use Rattle.rx_refine.proofs.Places.{length-places_from}
use Rattle.rx_refine.proofs.RefinedBlocks.{IsRefined, IsSettling}
use Rattle.rx_refine.proofs.Totals.{total-add, total-le, total-spent, total-same, total-const, total-mul}
use Rattle.rx_refine.proofs.Totals.{total-how_many-all, total_single, total_term, sum_by-total}

-- ---- binary digits
digits_half : (n : ℕ) → 0 < n → binary_digits n ≡ binary_digits (n / 2) + 1
digits_half n h = length-digits_of_step 2 n (omega arith) h

below_power : (f n : ℕ) → n ≤ f → n < 2 ^ binary_digits n
below_power zero n h = let e : n ≡ 0 = omega arith in rw e (pow_pos (binary_digits 0))
below_power (suc f) n h = grind (arith, common_steps, digits_half, below_power f (n / 2) (omega arith))

digits-le : (a b : ℕ) → a ≤ b → binary_digits a ≤ binary_digits b
digits-le a b h = length-digits_of-le 2 (binary_digits b) a (omega arith) (omega (arith, below_power b b (omega arith)))

-- ---- what a row costs where a unit takes its block
abbrev pub cost : Moves → ℕ → ℕ → ℕ
cost m unit row = 1 + length (sources m row unit)

total_cost : {m : Moves} {unit : ℕ} → AreMoves m → unit < m.units → 0 < m.rows → total (cost m unit) m.rows ≡ 2 * m.rows
total_cost {m} {unit} a h some =
    let len = a.lengths unit some h in
    let read : ℕ → ℕ = λ row. length (sources m row unit) in
    let stands : ℕ → ℕ = how_many (column m unit) in
    let each : total read m.rows ≡ total stands m.rows = grind (arith, common_steps, total-same, length-places_from) in
    let all : total stands m.rows ≡ length (column m unit) =
    total-how_many-all (column m unit) m.rows (λ k l. a.nexts k unit (omega arith) h) in
    total-add (λ _. 1) read m.rows ∙ omega (arith, total-const 1 m.rows)

-- ---- the allowance
abbrev pub allowance : Parts → ℕ → ℕ → ℕ
allowance p taken row = cond (leb taken (block_of p row)) (size_of p (block_of p row)) (size_of p (block_of p row) / 2)

-- what one row may still cost one unit, which took so many blocks
abbrev pub row_potential : Moves → Parts → ℕ → ℕ → ℕ → ℕ
row_potential m p taken unit row = binary_digits (allowance p taken row) * cost m unit row

abbrev pub unit_potential : Moves → Parts → ℕ → ℕ → ℕ
unit_potential m p taken unit = total (row_potential m p taken unit) m.rows

abbrev pub potential : Moves → Parts → List ℕ → ℕ
potential m p taken = total (λ unit. unit_potential m p (get_or taken unit 0) unit) m.units

-- ---- at first each block waits
module _ {m : Moves} {labels : List ℕ} {p : Parts} (r : IsRefined m labels p) where
  first_digits : (unit taken row : ℕ) → taken ≡ 0 → row < m.rows
      → row_potential m p taken unit row ≤ binary_digits m.rows * cost m unit row
  first_digits unit taken row z l = search (rules, mul-le-mul_right, digits-le)

  unit_first : (unit taken : ℕ) → AreMoves m → taken ≡ 0 → unit < m.units → 0 < m.rows
      → unit_potential m p taken unit ≤ binary_digits m.rows * (2 * m.rows)
  unit_first unit taken a z h some =
      let digits = binary_digits m.rows in
      let le : unit_potential m p taken unit ≤ total (λ row. digits * cost m unit row) m.rows =
      grind (arith, common_steps, total-le, first_digits) in
      let all : total (λ row. digits * cost m unit row) m.rows ≡ digits * total (cost m unit) m.rows =
      total-mul digits (cost m unit) m.rows in
      let each : digits * total (cost m unit) m.rows ≡ digits * (2 * m.rows) =
      ap (λ k. digits * k) (total_cost a h some) in
      omega arith

  limit_of : (units rows digits : ℕ) → digits * (2 * rows) * units ≡ 2 * units * rows * digits
  limit_of units rows digits = omega arith

  pub potential_first : (taken : List ℕ) → AreMoves m → ((u : ℕ) → u < m.units → get_or taken u 0 ≡ 0)
      → potential m p taken ≤ read_limit m
  potential_first taken a zeros =
      let each : ℕ = binary_digits m.rows * (2 * m.rows) in
      let le : potential m p taken ≤ total (λ _. each) m.units =
      grind (arith, common_steps, total-le, unit_first) in
      let all : total (λ _. each) m.units ≡ each * m.units = total-const each m.units in
      let limit : each * m.units ≡ read_limit m = limit_of m.units m.rows (binary_digits m.rows) in
      omega arith

  -- ---- a block is taken
  take_row : (unit taken row : ℕ) → taken < length p.sizes → row < m.rows
      → row_potential m p (taken + 1) unit row + cond (is_in (members p taken) row) (cost m unit row) 0
      ≤ row_potential m p taken unit row
  take_row unit taken row h l = search (rules, is_in_members, cases_eq, digits_half)

  unit_take : (unit taken : ℕ) → taken < length p.sizes
      → unit_potential m p (taken + 1) unit + sum_by (cost m unit) (members p taken) ≤ unit_potential m p taken unit
  unit_take unit taken h =
      let len = r.rows_len in
      let own : ℕ → ℕ = λ row. cond (is_in (members p taken) row) (cost m unit row) 0 in
      let e : sum_by (cost m unit) (members p taken) ≡ total own m.rows =
      sum_by-total (cost m unit) m.rows (members p taken) (members_apart r.partition h)
      (λ k l. let s = members_small r.partition h k 0 l in omega arith) in
      let le : unit_potential m p (taken + 1) unit + total own m.rows ≤ unit_potential m p taken unit =
      search (rules, total-spent, take_row) in
      omega arith

  -- ---- all blocks that wait are taken
  take_each : (unit taken row : ℕ) → row < m.rows
      → row_potential m p (length p.sizes) unit row + waiting_cost m unit p.blocks taken row
      ≤ row_potential m p taken unit row
  take_each unit taken row l = search (rules, digits_half)

  unit_take_all : (unit taken : ℕ)
      → unit_potential m p (length p.sizes) unit + waiting_reads m unit p.blocks taken ≤ unit_potential m p taken unit
  unit_take_all unit taken = grind (arith, common_steps, total-spent, take_each)

  -- ---- blocks are split
  split_allowance : {q : Parts} → Refines p q → (taken row : ℕ) → taken ≤ length p.sizes → row < m.rows
      → allowance q taken row ≤ allowance p taken row
  split_allowance {q} s taken row below l = search rules

  unit_split : {q : Parts} → Refines p q → (unit taken : ℕ) → taken ≤ length p.sizes
      → unit_potential m q taken unit ≤ unit_potential m p taken unit
  unit_split {q} s unit taken below = search (rules, total-le, mul-le-mul_right, digits-le, split_allowance)

-- ---- a unit takes blocks below a number `to`, its reads are paid for, and the blocks are split
module _ {m : Moves} {labels : List ℕ} {p q : Parts} {taken : List ℕ} {unit : ℕ} (a : IsSettling m labels p taken)
    (hu : unit < m.units) (s : Refines p q) where
  module _ (to spent : ℕ)
      (own : unit_potential m q to unit + spent ≤ unit_potential m p (get_or taken unit 0) unit) where
    step_unit : (u : ℕ) → u < m.units
        → unit_potential m q (get_or (set taken unit to) u 0) u + cond (eqb u unit) spent 0
        ≤ unit_potential m p (get_or taken u 0) u
    step_unit u l =
        let len = a.taken_len in
        elim (cases_eq u unit) [
          | inl e ↦ rw (e, eq-eqb unit unit refl, get_or-set_same taken unit to 0 (omega arith)) own
          | inr ne ↦
              let split = unit_split a.refined s u (get_or taken u 0) (a.below u l) in
              rw (ne_eqb u unit ne, get_or-set_other taken unit u to 0 ne) (omega arith)
        ]

    potential_step : potential m q (set taken unit to) + spent ≤ potential m p taken
    potential_step =
        let one : total (λ u. cond (eqb u unit) spent 0) m.units ≡ spent = total_single (λ _. spent) unit m.units hu in
        let le : potential m q (set taken unit to) + total (λ u. cond (eqb u unit) spent 0) m.units
        ≤ potential m p taken =
        total-spent (λ u. unit_potential m q (get_or (set taken unit to) u 0) u) (λ u. cond (eqb u unit) spent 0)
        (λ u. unit_potential m p (get_or taken u 0) u) m.units step_unit in
        omega arith

  -- one of them
  pub potential_turn : {block : ℕ} → block ≡ get_or taken unit 0 → block < length p.sizes
      → potential m q (set taken unit (block + 1)) + sum_by (cost m unit) (members p block) ≤ potential m p taken
  potential_turn {block} e h =
      let split = unit_split a.refined s unit (block + 1) (omega arith) in
      let take = unit_take a.refined unit block h in
      potential_step (block + 1) (sum_by (cost m unit) (members p block)) (rw (sym e) (omega arith))

  -- all that wait
  pub potential_all : {from : ℕ} → from ≡ get_or taken unit 0
      → potential m q (set taken unit (length p.sizes)) + waiting_reads m unit p.blocks from ≤ potential m p taken
  potential_all {from} e =
      let split = unit_split a.refined s unit (length p.sizes) (omega arith) in
      let take = unit_take_all a.refined unit from in
      potential_step (length p.sizes) (waiting_reads m unit p.blocks from) (rw (sym e) (omega arith))

-- the reads where a unit takes blocks are still allowed
module _ {m : Moves} {labels : List ℕ} {p : Parts} {taken : List ℕ} {unit from : ℕ} (a : IsSettling m labels p taken)
    (hu : unit < m.units) (is : from ≡ get_or taken unit 0) where
  one_unit : unit_potential m p from unit ≤ potential m p taken
  one_unit = rw is (total_term (λ u. unit_potential m p (get_or taken u 0) u) unit m.units hu)

  pub all_reads : waiting_reads m unit p.blocks from ≤ potential m p taken
  all_reads = let take = unit_take_all a.refined unit from in omega (arith, one_unit)

  pub turn_reads : from < length p.sizes → sum_by (cost m unit) (members p from) ≤ potential m p taken
  turn_reads h = let take = unit_take a.refined unit from h in omega (arith, one_unit)
