-- Keys that are given to the rows of a list, one after another, and to the sources of one row after another.
use Rattle.rx_refine.proofs.Prelude.{All, AreMoves, AreNextKeys, IsPartition, List, Moves, Parts, ap, arith, cases_eq}
use Rattle.rx_refine.proofs.Prelude.{column, common_steps, cond, get_or, get_or_default, inl, inr, is_in, le-leb}
use Rattle.rx_refine.proofs.Prelude.{length, ltb, next_key, next_row, refl, rules, sources, suc, suc-eq-add-one, sym}
use Rattle.rx_refine.proofs.Prelude.{take, take_all, total, waiting_cost, waiting_reads, zero, ℕ, ◌+◌, ◌<◌, ◌≡◌, ◌≤◌}
use Rattle.rx_refine.proofs.Blocks.{blocks_few}
use Rattle.rx_refine.proofs.Sources.{is_in-places_of}

-- the first rows of a list have a key, and each other row has what it had
pub record AreKeyed (hits : List ℕ) (key : ℕ) (old : List ℕ) (i : ℕ) (keys : List ℕ) : Type 0 where
  pub at : (x : ℕ) → x < length keys → get_or keys x 0 ≡ cond (is_in (take i hits) x) key (get_or old x 0)

pub AreKeyed-all : {hits : List ℕ} {key : ℕ} {old : List ℕ} {i : ℕ} {keys : List ℕ} → AreKeyed hits key old i keys
    → length hits ≤ i → (x : ℕ) → x < length keys → get_or keys x 0 ≡ cond (is_in hits x) key (get_or old x 0)
AreKeyed-all {hits} {i} a h x l = rw (take_all i hits h) at (a.at x l)

-- ---- a unit that took the blocks below a number, and the block of each row
pub record Waiting : Type 0 where
  pub moves : Moves
  pub unit : ℕ
  pub blocks : List ℕ
  pub taken : ℕ

abbrev pub next_of : Waiting → ℕ → ℕ
next_of w x = next_row w.moves x w.unit

abbrev pub sources_of : Waiting → ℕ → List ℕ
sources_of w n = sources w.moves n w.unit

abbrev pub key_of : Waiting → ℕ → ℕ
key_of w x = next_key w.moves w.unit w.blocks w.taken x

abbrev pub cost_of : Waiting → ℕ → ℕ
cost_of w row = waiting_cost w.moves w.unit w.blocks w.taken row

-- the rows up to a bound are read: what a row has for a key
abbrev key_so_far : Waiting → ℕ → ℕ → ℕ
key_so_far w n x = cond (ltb (next_of w x) n) (key_of w x) 0

-- the n-th row is read: its block waits
key_read : (w : Waiting) (n x old : ℕ) → x < length (column w.moves w.unit) → w.taken ≤ get_or w.blocks n 0
    → old ≡ key_so_far w n x → cond (is_in (sources_of w n) x) (get_or w.blocks n 0) old ≡ key_so_far w (n + 1) x
key_read w n x old lx le h = grind (arith, common_steps, is_in-places_of)

-- ---- the lists of the rows below a bound are read
pub record IsReading (w : Waiting) (start n : ℕ) (keys : List ℕ) (steps : ℕ) : Type 0 where
  pub keys_len : length keys ≡ w.moves.rows
  pub keys_at : (x : ℕ) → x < w.moves.rows → get_or keys x 0 ≡ key_so_far w n x
  pub few : steps ≤ start + total (cost_of w) n
  pub rising : start ≤ steps

total_more : (f : ℕ → ℕ) (n : ℕ) → total f (n + 1) ≡ total f n + f n
total_more f n = ap (total f) (sym (suc-eq-add-one n))

total_up : (f : ℕ → ℕ) (n k : ℕ) → n ≤ k → total f n ≤ total f k
total_up f n zero l = let e : n ≡ 0 = omega arith in rw e (omega arith)
total_up f n (suc k) l =
    elim (cases_eq n (suc k)) [
      | inl e ↦ rw e (omega arith)
      | inr ne ↦ let h = total_up f n k (omega arith) in omega arith
    ]

cost_waits : (w : Waiting) (row : ℕ) → w.taken ≤ get_or w.blocks row 0 → cost_of w row ≡ 1 + length (sources_of w row)
cost_waits w row le = rw (le-leb w.taken (get_or w.blocks row 0) le) refl

pub reading_none : {w : Waiting} {steps : ℕ} {keys : List ℕ} → length keys ≡ w.moves.rows
    → ((x : ℕ) → x < length keys → get_or keys x 0 ≡ 0) → IsReading w steps 0 keys steps
reading_none {w} len zeros = grind (arith, common_steps)

module _ {w : Waiting} {start n : ℕ} {keys : List ℕ} {steps : ℕ} (r : IsReading w start n keys steps) where
  pub reading_room : n < w.moves.rows → w.taken ≤ get_or w.blocks n 0
      → steps + (1 + length (sources_of w n)) ≤ start + waiting_reads w.moves w.unit w.blocks w.taken
  reading_room l le =
      let f = r.few in
      let c = cost_waits w n le in
      let u = total_up (cost_of w) (n + 1) w.moves.rows (omega arith) in
      omega (arith, total_more (cost_of w) n)

  pub reading_read : {new : List ℕ} {now : ℕ} → AreMoves w.moves → w.unit < w.moves.units → n < w.moves.rows
      → w.taken ≤ get_or w.blocks n 0 → length new ≡ length keys
      → ((x : ℕ) → x < length keys
      → get_or new x 0 ≡ cond (is_in (sources_of w n) x) (get_or w.blocks n 0) (get_or keys x 0))
      → now ≡ steps + (1 + length (sources_of w n)) → IsReading w start (n + 1) new now
  reading_read a hu l le len at e = grind (arith, common_steps, key_read)

  pub reading_passed : get_or w.blocks n 0 < w.taken → IsReading w start (n + 1) keys steps
  reading_passed lt = grind (arith, common_steps)

-- such keys are numbers of blocks, and so below the number of rows
pub next_keys_small : {m : Moves} {unit : ℕ} {p : Parts} (taken : ℕ) (keys : List ℕ) → AreMoves m → unit < m.units
    → IsPartition p → length p.rows ≡ m.rows → length keys ≡ m.rows → AreNextKeys m unit p.blocks taken keys
    → All (λ key. key < length keys) keys
next_keys_small {m} {unit} {p} taken keys a hu w rows len at k d l = search (rules, get_or_default, blocks_few)
