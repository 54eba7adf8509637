-- Why the blocks are right: while units take blocks, rows of different blocks are told apart by a word,
-- and where a unit leads two rows of one block into different blocks, one of these is a block that the
-- unit has still to take.
use Rattle.rx_refine.proofs.Prelude.{AreAlikeByNumber, AreMoves, AreToldApart, BehaveAlike, IsPartition, IsWord, List}
use Rattle.rx_refine.proofs.Prelude.{Moves, Parts, Refines, SplitsBy, TakesAll, [], ap, arith, block_of, cases_eq}
use Rattle.rx_refine.proofs.Prelude.{cases_lt, common_steps, cond, eq-eqb, eqb, eqb-true, get_or, get_or-set_other, inl}
use Rattle.rx_refine.proofs.Prelude.{inr, is_in, label_after, le-leb, leb, length, lt-leb, next_row, refl, rules, set}
use Rattle.rx_refine.proofs.Prelude.{subst, suc, sym, ℕ, ◌+◌, ◌<◌, ◌∙◌, ◌∷◌, ◌≡◌, ◌≤◌}
use Rattle.rx_refine.proofs.Blocks.{alone, is_in_members, marks_of, members}
use Rattle.rx_refine.proofs.Places.{Contains-cons}

-- ---- words
label_after-cons : (m : Moves) (labels : List ℕ) (x unit : ℕ) (word : List ℕ)
    → label_after m labels x (unit ∷ word) ≡ label_after m labels (next_row m x unit) word
label_after-cons m labels x unit word = refl

pub label_after-nil : (m : Moves) (labels : List ℕ) (x : ℕ) → label_after m labels x [] ≡ get_or labels x 0
label_after-nil m labels x = refl

IsWord-cons : (m : Moves) {unit : ℕ} (word : List ℕ) → unit < m.units → IsWord m word → IsWord m (unit ∷ word)
IsWord-cons m {unit} word h w v c = elim (Contains-cons unit word v c) [
  | inl e ↦ subst (λ n. n < m.units) e h
  | inr d ↦ w v d
]

IsWord-head : (m : Moves) (unit : ℕ) (word : List ℕ) → IsWord m (unit ∷ word) → unit < m.units
IsWord-head m unit word w = w unit (0, omega arith, refl)

IsWord-tail : (m : Moves) (unit : ℕ) (word : List ℕ) → IsWord m (unit ∷ word) → IsWord m word
IsWord-tail m unit word w v (k, l, e) = w v (suc k, omega arith, e)

pub AreToldApart-before : {m : Moves} {labels : List ℕ} (x y : ℕ) {unit : ℕ} → unit < m.units
    → AreToldApart m labels (next_row m x unit) (next_row m y unit) → AreToldApart m labels x y
AreToldApart-before {m} {labels} x y {unit} h t = record {
  word = unit ∷ t.word;
  is_word = IsWord-cons m t.word h t.is_word;
  differ = λ e. t.differ (sym (label_after-cons m labels x unit t.word) ∙ e ∙ label_after-cons m labels y unit t.word);
}

-- ---- the invariants
pub record IsRefined (m : Moves) (labels : List ℕ) (p : Parts) : Type 0 where
  pub partition : IsPartition p
  pub rows_len : length p.rows ≡ m.rows
  pub clear : (block : ℕ) → marks_of p block ≡ 0
  pub labelled : (x y : ℕ) → x < m.rows → y < m.rows → block_of p x ≡ block_of p y
      → get_or labels x 0 ≡ get_or labels y 0
  pub told : (x y : ℕ) → x < m.rows → y < m.rows → (block_of p x ≡ block_of p y → ⊥) → AreToldApart m labels x y

pub row_in : {m : Moves} {labels : List ℕ} {p : Parts} → IsRefined m labels p → {x : ℕ} → x < m.rows → x < length p.rows
row_in r l = omega (arith, r.rows_len)

-- of two rows to which a unit leads two rows of one block: they are in one block, or one of them is in a
-- block that the unit has still to take
pub data Leads (p : Parts) (taken x y : ℕ) : Type 0 where
  same : block_of p x ≡ block_of p y → Leads p taken x y
  first : taken ≤ block_of p x → Leads p taken x y
  second : taken ≤ block_of p y → Leads p taken x y

-- how many blocks each unit took
pub record IsSettling (m : Moves) (labels : List ℕ) (p : Parts) (taken : List ℕ) : Type 0 where
  pub refined : IsRefined m labels p
  pub taken_len : length taken ≡ m.units
  pub below : (u : ℕ) → u < m.units → get_or taken u 0 ≤ length p.sizes
  pub pending : (x y u : ℕ) → x < m.rows → y < m.rows → u < m.units → block_of p x ≡ block_of p y
      → Leads p (get_or taken u 0) (next_row m x u) (next_row m y u)

-- at first each block waits
pub IsSettling-first : {m : Moves} {labels : List ℕ} {p : Parts} (taken : List ℕ) → IsRefined m labels p
    → length taken ≡ m.units → ((u : ℕ) → u < m.units → get_or taken u 0 ≡ 0) → IsSettling m labels p taken
IsSettling-first taken r len zeros = grind (arith, common_steps)

-- ---- the blocks are split
module _ {m : Moves} {labels : List ℕ} {p q : Parts} (r : IsRefined m labels p) (s : Refines p q) where
  -- a row's new number isn't less
  later : {k x : ℕ} → k ≤ length p.sizes → x < m.rows → k ≤ block_of p x → k ≤ block_of q x
  later {x} b l le = grind (arith, common_steps, row_in r)

  -- rows of one block are in one block, or one of them is in a new one
  split_same : {k x y : ℕ} → k ≤ length p.sizes → x < m.rows → y < m.rows → block_of p x ≡ block_of p y → Leads q k x y
  split_same {x} {y} b lx ly e = grind (arith, common_steps, row_in r)

  split_leads : {k x y : ℕ} → k ≤ length p.sizes → x < m.rows → y < m.rows → Leads p k x y → Leads q k x y
  split_leads b lx ly h3 = search (rules, split_same, later)

flipped : {p : Parts} {k x y : ℕ} → Leads p k x y → Leads p k y x
flipped h0 = grind (arith, common_steps)

-- ---- a unit takes blocks: it took those below `from`, and takes those below `to` too, by which the blocks are split
pub record Takes (m : Moves) (labels : List ℕ) (unit : ℕ) (p : Parts) (from : ℕ) (q : Parts) (to : ℕ) : Type 0 where
  pub refines : Refines p q
  pub few : to ≤ length p.sizes
  pub told : (x y : ℕ) → x < m.rows → y < m.rows → (block_of q x ≡ block_of q y → ⊥) → AreToldApart m labels x y
  pub leads : (x y : ℕ) → x < m.rows → y < m.rows → block_of q x ≡ block_of q y
      → Leads p from (next_row m x unit) (next_row m y unit) → Leads q to (next_row m x unit) (next_row m y unit)

module _ {m : Moves} {labels : List ℕ} {p q : Parts} {taken : List ℕ} {unit to : ℕ} (moves : AreMoves m)
    (hu : unit < m.units) (a : IsSettling m labels p taken) (t : Takes m labels unit p (get_or taken unit 0) q to) where
  was_together : (x y : ℕ) → x < m.rows → y < m.rows → block_of q x ≡ block_of q y → block_of p x ≡ block_of p y
  was_together x y lx ly e = t.refines.finer x y (row_in a.refined lx) (row_in a.refined ly) e

  step_pending : (x y u : ℕ) → x < m.rows → y < m.rows → u < m.units → block_of q x ≡ block_of q y
      → Leads q (get_or (set taken unit to) u 0) (next_row m x u) (next_row m y u)
  step_pending x y u lx ly lu e =
      let old : Leads p (get_or taken u 0) (next_row m x u) (next_row m y u) =
      a.pending x y u lx ly lu (was_together x y lx ly e) in
      elim (cases_eq u unit) [
        | inl f ↦ search rules
        | inr ne ↦
            rw (get_or-set_other taken unit u to 0 ne)
            (split_leads a.refined t.refines (a.below u lu) (moves.nexts x u lx lu) (moves.nexts y u ly lu) old)
      ]

  pub IsSettling-step : IsSettling m labels q (set taken unit to)
  IsSettling-step = search (rules, step_pending)

-- ---- a unit takes a block: the blocks are split by the rows that it leads into that block
module _ {m : Moves} {labels : List ℕ} {p q : Parts} {unit block : ℕ} {hits : List ℕ} (moves : AreMoves m)
    (hu : unit < m.units) (r : IsRefined m labels p) (h : block < length p.sizes) (s : SplitsBy p hits q)
    (are : (row : ℕ) → row < m.rows → is_in hits row ≡ is_in (members p block) (next_row m row unit)) where
  -- a row is hit where the unit leads it into the block
  hit : (x : ℕ) → x < m.rows → is_in hits x ≡ eqb (block_of p (next_row m x unit)) block
  hit x l = are x l ∙ is_in_members r.partition h (next_row m x unit) (row_in r (moves.nexts x unit l hu))

  told_by_hit : (x y : ℕ) → x < m.rows → y < m.rows → (is_in hits x ≡ is_in hits y → ⊥) → AreToldApart m labels x y
  told_by_hit x y lx ly ne =
      AreToldApart-before x y hu
      (r.told (next_row m x unit) (next_row m y unit) (moves.nexts x unit lx hu) (moves.nexts y unit ly hu)
      (λ e. ne (hit x lx ∙ ap (λ n. eqb n block) e ∙ sym (hit y ly))))

  block_told : (x y : ℕ) → x < m.rows → y < m.rows → (block_of q x ≡ block_of q y → ⊥) → AreToldApart m labels x y
  block_told x y lx ly ne = grind (arith, common_steps, told_by_hit, row_in r)

  -- rows that stay together are both hit or both not
  both_hit : (x y : ℕ) → x < m.rows → y < m.rows → block_of q x ≡ block_of q y
      → eqb (block_of p (next_row m x unit)) block ≡ eqb (block_of p (next_row m y unit)) block
  both_hit x y lx ly e = sym (hit x lx) ∙ s.agrees x y (row_in r lx) (row_in r ly) e ∙ hit y ly

  next_same : (x y : ℕ) → x < m.rows → y < m.rows → block_of p (next_row m x unit) ≡ block_of p (next_row m y unit)
      → Leads q (block + 1) (next_row m x unit) (next_row m y unit)
  next_same x y lx ly e = grind (arith, common_steps)

  block_first : (x y : ℕ) → x < m.rows → y < m.rows → block_of q x ≡ block_of q y
      → block ≤ block_of p (next_row m x unit) → Leads q (block + 1) (next_row m x unit) (next_row m y unit)
  block_first x y lx ly e le =
      let bx = block_of p (next_row m x unit) in
      let by = block_of p (next_row m y unit) in
      elim (cases_eq bx block) [
        | inl f ↦
            let g : by ≡ block = eqb-true by block (sym (both_hit x y lx ly e) ∙ eq-eqb bx block f) in
            next_same x y lx ly (f ∙ sym g)
        | inr ne ↦ first (later r s.refines (omega arith) (moves.nexts x unit lx hu) (omega arith))
      ]

  block_leads : (x y : ℕ) → x < m.rows → y < m.rows → block_of q x ≡ block_of q y
      → Leads p block (next_row m x unit) (next_row m y unit)
      → Leads q (block + 1) (next_row m x unit) (next_row m y unit)
  block_leads x y lx ly e h5 = grind (arith, common_steps, next_same, block_first, flipped)

  pub Takes-block : Takes m labels unit p block q (block + 1)
  Takes-block = record { refines = s.refines; few = omega arith; told = block_told; leads = block_leads }

-- ---- a unit takes all blocks that wait for it: the blocks are split by those to which it leads the rows
module _ {m : Moves} {labels : List ℕ} {p q : Parts} {unit from : ℕ} (moves : AreMoves m) (hu : unit < m.units)
    (r : IsRefined m labels p) (s : TakesAll m unit p from q) where
  told_by_key : (x y : ℕ) → x < m.rows → y < m.rows → (get_or s.keys x 0 ≡ get_or s.keys y 0 → ⊥)
      → AreToldApart m labels x y
  told_by_key x y lx ly ne =
      AreToldApart-before x y hu
      (r.told (next_row m x unit) (next_row m y unit) (moves.nexts x unit lx hu) (moves.nexts y unit ly hu)
      (λ e. ne (s.are x lx ∙ ap (λ b. cond (leb from b) b 0) e ∙ sym (s.are y ly))))

  all_told : (x y : ℕ) → x < m.rows → y < m.rows → (block_of q x ≡ block_of q y → ⊥) → AreToldApart m labels x y
  all_told x y lx ly ne = search (rules, cases_eq, told_by_key, row_in r)

  -- rows that stay together are led into one block, where one of them is led into a block that waited
  one_next : (x y : ℕ) → x < m.rows → y < m.rows → block_of q x ≡ block_of q y
      → from ≤ block_of p (next_row m x unit) → block_of p (next_row m x unit) ≡ block_of p (next_row m y unit)
  one_next x y lx ly e le = search (rules, row_in r, le-leb, cases_lt, lt-leb)

  one_leads : (x y : ℕ) → x < m.rows → y < m.rows → block_of p (next_row m x unit) ≡ block_of p (next_row m y unit)
      → Leads q (length p.sizes) (next_row m x unit) (next_row m y unit)
  one_leads x y lx ly e = grind (arith, common_steps)

  all_leads : (x y : ℕ) → x < m.rows → y < m.rows → block_of q x ≡ block_of q y
      → Leads p from (next_row m x unit) (next_row m y unit)
      → Leads q (length p.sizes) (next_row m x unit) (next_row m y unit)
  all_leads x y lx ly e h5 = grind (arith, common_steps, one_leads, one_next)

  pub Takes-all : Takes m labels unit p from q (length p.sizes)
  Takes-all = record { refines = s.splits.refines; few = omega arith; told = all_told; leads = all_leads }

-- ---- nothing is left to split: the rows to which a unit leads two rows of one block are in one block
pub record IsSteady (m : Moves) (p : Parts) : Type 0 where
  pub next_same : (x y u : ℕ) → x < m.rows → y < m.rows → u < m.units → block_of p x ≡ block_of p y
      → block_of p (next_row m x u) ≡ block_of p (next_row m y u)

module _ {m : Moves} {labels : List ℕ} {p : Parts} (moves : AreMoves m) (r : IsRefined m labels p)
    (s : IsSteady m p) where
  end_alike : (x y : ℕ) (word : List ℕ) → x < m.rows → y < m.rows → block_of p x ≡ block_of p y → IsWord m word
      → label_after m labels x word ≡ label_after m labels y word
  end_alike x y [] lx ly e w = label_after-nil m labels x ∙ r.labelled x y lx ly e ∙ sym (label_after-nil m labels y)
  end_alike x y (unit ∷ word) lx ly e w =
      let hu : unit < m.units = IsWord-head m unit word w in
      let nx : next_row m x unit < m.rows = moves.nexts x unit lx hu in
      let ny : next_row m y unit < m.rows = moves.nexts y unit ly hu in
      let later : block_of p (next_row m x unit) ≡ block_of p (next_row m y unit) = s.next_same x y unit lx ly hu e in
      label_after-cons m labels x unit word
      ∙ end_alike (next_row m x unit) (next_row m y unit) word nx ny later (IsWord-tail m unit word w)
      ∙ sym (label_after-cons m labels y unit word)

  same_from_alike : (x y : ℕ) → x < m.rows → y < m.rows → BehaveAlike m labels x y → block_of p x ≡ block_of p y
  same_from_alike x y lx ly b =
      elim (cases_eq (block_of p x) (block_of p y)) [
        | inl e ↦ e
        | inr ne ↦ absurd (let t = r.told x y lx ly ne in t.differ (b t.word t.is_word))
      ]

  pub alike_where_steady : AreAlikeByNumber m labels p.blocks
  alike_where_steady x y lx ly = (λ e word w. end_alike x y word lx ly e w, same_from_alike x y lx ly)

-- each unit took all blocks
module _ {m : Moves} {labels : List ℕ} {p : Parts} {taken : List ℕ} (moves : AreMoves m)
    (a : IsSettling m labels p taken) (h : (u : ℕ) → u < m.units → length p.sizes ≤ get_or taken u 0) where
  pub steady_at_end : IsSteady m p
  steady_at_end = search rules

-- each row is alone in its block
pub steady_where_discrete : {m : Moves} {labels : List ℕ} {p : Parts} → IsRefined m labels p
    → length p.sizes ≡ length p.rows → IsSteady m p
steady_where_discrete {m} {p} r d = grind (arith, common_steps, alone)
