-- The loops of the refinement: what holds before each turn, in which a unit takes a block.
use Rattle.rx_refine.proofs.Prelude.{All, AreAlikeByNumber, AreMoves, AreToldByNumber, AreWithoutGaps, Contains}
use Rattle.rx_refine.proofs.Prelude.{Contains-get_or, List, Moves, Parts, SplitsBy, TakesAll, [], arith, block_of}
use Rattle.rx_refine.proofs.Prelude.{common_steps, eqb, flat_map, get_or, get_or-set_other, get_or_default, length}
use Rattle.rx_refine.proofs.Prelude.{read_limit, rules, set, sources, subst, sum_by, true, waiting_reads, ℕ, ◌+◌, ◌-◌}
use Rattle.rx_refine.proofs.Prelude.{◌<◌, ◌≡◌, ◌≤◌}
use Rattle.rx_refine.specs.Labelled.{IsByLabel}
use Rattle.rx_refine.proofs.Blocks.{blocks_few, members, members_small, row_at, start_of}
use Rattle.rx_refine.proofs.Sources.{is_in-flat_map, flat_map-small}
use Rattle.rx_refine.proofs.RefinedBlocks.{IsRefined, IsSettling, Takes, IsSettling-first, IsSettling-step, Takes-block}
use Rattle.rx_refine.proofs.RefinedBlocks.{Takes-all, steady_at_end, steady_where_discrete, alike_where_steady}
use Rattle.rx_refine.proofs.ReadCosts.{cost, potential, potential_first, potential_turn, potential_all, turn_reads}
use Rattle.rx_refine.proofs.ReadCosts.{all_reads}

-- before a turn: `start` steps were counted when the refinement began, `steps` by now
pub record IsRound (m : Moves) (labels : List ℕ) (start : ℕ) (p : Parts) (taken : List ℕ) (steps : ℕ) : Type 0 where
  pub settling : IsSettling m labels p taken
  pub allowed : steps + potential m p taken ≤ start + read_limit m
  pub rising : start ≤ steps

-- the units below a bound took as many blocks as there were when a sweep over the units began
pub record IsSweep (m : Moves) (labels : List ℕ) (start : ℕ) (p : Parts) (taken : List ℕ) (steps seen unit : ℕ) : Type
    0 where
  pub round : IsRound m labels start p taken steps
  pub seen_all : (u : ℕ) → u < unit → seen ≤ get_or taken u 0
  pub seen_few : seen ≤ length p.sizes

-- how many blocks a unit took, as it is read
pub taken_read : {m : Moves} {labels : List ℕ} {start : ℕ} {p : Parts} {taken : List ℕ} {steps seen bound unit : ℕ}
    → IsSweep m labels start p taken steps seen bound → unit < m.units → (read : ℕ) → read ≡ get_or taken unit read
    → read ≡ get_or taken unit 0
taken_read {m} {taken} {unit} t hu read is = grind (arith, common_steps)

-- ---- the first blocks
refined_first : {m : Moves} {labels : List ℕ} {p : Parts} → length labels ≡ m.rows → IsByLabel labels p
    → IsRefined m labels p
refined_first {m} {labels} len b = grind (arith, common_steps)

pub sweep_first : {m : Moves} {labels : List ℕ} {start : ℕ} {p : Parts} {taken : List ℕ} → AreMoves m
    → length labels ≡ m.rows → IsByLabel labels p → length taken ≡ m.units
    → ((u : ℕ) → u < m.units → get_or taken u 0 ≡ 0) → IsSweep m labels start p taken start 0 m.units
sweep_first {m} {taken} a len b taken_len zeros =
    let r = refined_first {m = m} len b in
    record {
      round = record {
        settling = IsSettling-first taken r taken_len zeros;
        allowed = omega (arith, potential_first r taken a zeros);
        rising = omega arith;
      };
      seen_all = λ u l. omega arith;
      seen_few = omega arith;
    }

-- ---- a unit took all blocks
pub sweep_more : {m : Moves} {labels : List ℕ} {start : ℕ} {p : Parts} {taken : List ℕ} {steps seen unit : ℕ}
    → IsSweep m labels start p taken steps seen unit → length p.sizes ≤ get_or taken unit 0
    → IsSweep m labels start p taken steps seen (unit + 1)
sweep_more {unit} t le = grind (arith, common_steps)

-- ---- a turn: a unit takes a block, whose rows are these
pub record IsNext (p : Parts) (taken : List ℕ) (unit block : ℕ) (rows : List ℕ) : Type 0 where
  pub number : block ≡ get_or taken unit 0
  pub waits : block < length p.sizes
  pub are : rows ≡ members p block

module _ {m : Moves} {labels : List ℕ} {start : ℕ} {p : Parts} {taken : List ℕ} {steps seen unit block : ℕ}
    {rows : List ℕ} (t : IsSweep m labels start p taken steps seen unit) (hu : unit < m.units)
    (n : IsNext p taken unit block rows) where
  below_rows : block < m.rows
  below_rows = grind (arith, common_steps, blocks_few)

  some_row : 0 < m.rows
  some_row = omega (arith, below_rows)

  pub taking_small : All (λ row. row < m.rows) rows
  taking_small = grind (arith, common_steps, members_small)

  -- the reads are allowed, whatever comes of them
  pub turn_allowed : steps + sum_by (cost m unit) rows ≤ start + read_limit m
  turn_allowed =
      let al = t.round.allowed in
      rw n.are (omega (arith, turn_reads t.round.settling hu n.number n.waits))

  pub hits_small : AreMoves m → {hits : List ℕ} → hits ≡ flat_map (λ row. sources m row unit) rows
      → All (λ row. row < length p.rows) hits
  hits_small a e = rw (t.round.settling.refined.rows_len, e) (flat_map-small rows unit a hu some_row)

  turn_takes : AreMoves m → {hits : List ℕ} {q : Parts} → hits ≡ flat_map (λ row. sources m row unit) rows
      → SplitsBy p hits q → Takes m labels unit p (get_or taken unit 0) q (block + 1)
  turn_takes a {q} e s =
      subst (λ b. Takes m labels unit p b q (block + 1)) n.number
      (Takes-block a hu t.round.settling.refined n.waits s
      (λ row l.
      rw (e, n.are)
      (is_in-flat_map m (members p block) unit row (let c = a.lengths unit some_row hu in omega arith))))

  pub turn_more : AreMoves m → {hits : List ℕ} {q : Parts} {now : ℕ}
      → hits ≡ flat_map (λ row. sources m row unit) rows → SplitsBy p hits q
      → now ≤ steps + sum_by (cost m unit) rows → steps ≤ now
      → IsSweep m labels start q (set taken unit (block + 1)) now seen unit
  turn_more a {q} e s le ge =
      let spent : potential m q (set taken unit (block + 1)) + sum_by (cost m unit) rows ≤ potential m p taken =
      rw n.are (potential_turn t.round.settling hu s.refines n.number n.waits) in
      record {
        round = record {
          settling = IsSettling-step a hu t.round.settling (turn_takes a e s);
          allowed = let al = t.round.allowed in omega arith;
          rising = let r = t.round.rising in omega arith;
        };
        seen_all = λ u l. rw (get_or-set_other taken unit u (block + 1) 0 (λ e. omega arith)) (t.seen_all u l);
        seen_few = let f = t.seen_few in let g = s.refines.more in omega arith;
      }

  -- fewer blocks are left
  pub turn_falls : m.rows - get_or (set taken unit (block + 1)) unit 0 < m.rows - get_or taken unit 0
  turn_falls = grind (arith, common_steps, below_rows)

-- ---- a unit, which took the blocks below `from`, takes all others
module _ {m : Moves} {labels : List ℕ} {start : ℕ} {p : Parts} {taken : List ℕ} {steps seen unit from : ℕ}
    (t : IsSweep m labels start p taken steps seen unit) (hu : unit < m.units) (is : from ≡ get_or taken unit 0) where
  pub all_allowed : steps + waiting_reads m unit p.blocks from ≤ start + read_limit m
  all_allowed = let al = t.round.allowed in omega (arith, all_reads t.round.settling hu is)

  pub all_more : {q : Parts} {now : ℕ} → TakesAll m unit p from q → AreMoves m
      → now ≤ steps + waiting_reads m unit p.blocks from → steps ≤ now
      → IsSweep m labels start q (set taken unit (length p.sizes)) now seen unit
  all_more {q} s a le ge =
      let spent = potential_all t.round.settling hu s.splits.refines is in
      record {
        round = record {
          settling =
              IsSettling-step a hu t.round.settling
              (subst (λ b. Takes m labels unit p b q (length p.sizes)) is
              (Takes-all a hu t.round.settling.refined s));
          allowed = let al = t.round.allowed in omega arith;
          rising = let r = t.round.rising in omega arith;
        };
        seen_all = λ u l. rw (get_or-set_other taken unit u (length p.sizes) 0 (λ e. omega arith)) (t.seen_all u l);
        seen_few = let f = t.seen_few in let g = s.splits.refines.more in omega arith;
      }

  -- and the next unit is taken up
  pub all_next : {q : Parts} {now : ℕ} → TakesAll m unit p from q → AreMoves m
      → now ≤ steps + waiting_reads m unit p.blocks from → steps ≤ now
      → IsSweep m labels start q (set taken unit (length p.sizes)) now seen (unit + 1)
  all_next s a le ge = grind (arith, common_steps, all_more)

-- blocks are at most as many as rows
pub blocks_below : {m : Moves} {labels : List ℕ} {start : ℕ} {p : Parts} {taken : List ℕ} {steps : ℕ}
    → IsRound m labels start p taken steps → length p.sizes ≤ m.rows
blocks_below r = grind (arith, common_steps, blocks_few)

-- ---- the result
module _ {m : Moves} {labels : List ℕ} {p : Parts} (r : IsRefined m labels p) where
  pub result_told : AreToldByNumber m labels p.blocks
  result_told x y lx ly ne = r.told x y lx ly ne

  pub result_numbers : All (λ block. block < m.rows) p.blocks
  result_numbers k d l = search (rules, get_or_default, blocks_few)

  pub result_no_gaps : AreWithoutGaps p.blocks
  result_no_gaps x number l lt =
      let w = r.partition in
      let s : start_of p number < length p.rows = omega arith in
      let row : ℕ = row_at p (start_of p number) in
      let row_l : row < length p.blocks = let at = w.permuted.row_at (start_of p number) s in omega arith in
      let is : block_of p row ≡ number = grind (arith, common_steps) in
      subst (λ n. Contains p.blocks n) is (Contains-get_or p.blocks row 0 row_l)

-- no sweep is left
pub result_alike : {m : Moves} {labels : List ℕ} {start : ℕ} {p : Parts} {taken : List ℕ} {steps seen : ℕ} → AreMoves m
    → IsSweep m labels start p taken steps seen m.units → length p.sizes ≤ seen → AreAlikeByNumber m labels p.blocks
result_alike a t h =
    alike_where_steady a t.round.settling.refined
    (steady_at_end a t.round.settling (λ u l. (let s = t.seen_all u l in omega arith)))

-- each row is alone in its block
pub discrete_alike : {m : Moves} {labels : List ℕ} {p : Parts} → AreMoves m → IsRefined m labels p
    → eqb (length p.sizes) (length p.rows) ≡ true → AreAlikeByNumber m labels p.blocks
discrete_alike {p} a r d = search (rules, alike_where_steady, steady_where_discrete)
