-- The blocks of a partition: where they begin, which rows they have, and that they are at most as many as the rows.
use Rattle.std.proofs.Common.{rules}
use Rattle.rx_refine.proofs.Prelude.{All, Contains, Contains-from_any, IsPartition, List, Parts, ap, arith, block_of}
use Rattle.rx_refine.proofs.Prelude.{cases_Bool, cases_eq, cases_lt, common_steps, eq-eqb, eqb, eqb-true, false, get_or}
use Rattle.rx_refine.proofs.Prelude.{get_or_default, inl, inr, is_in, length, length-drop, length-take, list_any}
use Rattle.rx_refine.proofs.Prelude.{list_any_at, ne_eqb, size_of, slice_range, sym, true, ℕ, ◌+◌, ◌-◌, ◌<◌, ◌∙◌, ◌∷◌}
use Rattle.rx_refine.proofs.Prelude.{◌≡◌, ◌≤◌}
use Rattle.std.proofs.lemmas.Map.Steps.{length-le_from_distinct_below}
use Rattle.std.proofs.lemmas.Map.Keys.{IsDistinct-from_apart}

-- where a block begins, and how many of its rows are marked
abbrev pub start_of : Parts → ℕ → ℕ
start_of p block = get_or p.starts block 0

abbrev pub marks_of : Parts → ℕ → ℕ
marks_of p block = get_or p.marks block 0

-- where a row stands, and the row that stands at a place
abbrev pub place_of : Parts → ℕ → ℕ
place_of p row = get_or p.places row 0

abbrev pub row_at : Parts → ℕ → ℕ
row_at p place = get_or p.rows place 0

-- ---- there are at most as many blocks as rows
module _ {p : Parts} (w : IsPartition p) where
  block_of_start : (block : ℕ) → block < length p.sizes → block_of p (row_at p (start_of p block)) ≡ block
  block_of_start block h = w.in_block block (start_of p block) h (omega arith) (omega arith)

  starts_apart : (i j d : ℕ) → i < j → j < length p.starts → eqb (get_or p.starts i d) (get_or p.starts j d) ≡ false
  starts_apart i j d l h =
      let s = w.starts_len in
      let ei : get_or p.starts i d ≡ start_of p i = get_or_default p.starts i d 0 (omega arith) in
      let ej : get_or p.starts j d ≡ start_of p j = get_or_default p.starts j d 0 h in
      rw (ei, ej) (ne_eqb (start_of p i) (start_of p j)
      (λ (e : start_of p i ≡ start_of p j).
      let bi : block_of p (row_at p (start_of p i)) ≡ i = block_of_start i (omega arith) in
      let bj : block_of p (row_at p (start_of p j)) ≡ j = block_of_start j (omega arith) in
      let same : i ≡ j = sym bi ∙ ap (λ n. block_of p (row_at p n)) e ∙ bj in
      omega arith))

  start_in : (q : ℕ) → Contains p.starts q → q < length p.rows
  start_in q (k, l, e) =
      let s = w.starts_len in
      let e2 : start_of p k ≡ q = get_or_default p.starts k 0 q l ∙ e in
      omega arith

  starts_small : (q : ℕ) → list_any (eqb q) p.starts ≡ true → q < length p.rows
  starts_small q t = start_in q (Contains-from_any (λ x y. eqb-true x y) q p.starts t)

  pub blocks_few : length p.sizes ≤ length p.rows
  blocks_few =
      let s = w.starts_len in
      omega (
        arith,
        length-le_from_distinct_below p.starts (length p.rows) (IsDistinct-from_apart eqb p.starts starts_apart)
            starts_small,
      )

  -- a place in a block past its start is no start
  no_start : (place : ℕ) {b : ℕ} (k : ℕ) → b < length p.sizes → start_of p b < place
      → place < start_of p b + size_of p b → k < length p.starts → start_of p k ≡ place → ⊥
  no_start place {b} k hb lo hi lk e =
      let s = w.starts_len in
      let at : block_of p (row_at p place) ≡ b = w.in_block b place hb (omega arith) hi in
      let same : k ≡ b = sym (block_of_start k (omega arith)) ∙ ap (λ n. block_of p (row_at p n)) e ∙ at in
      let f : start_of p b ≡ place = ap (λ n. start_of p n) (sym same) ∙ e in
      omega arith

  with_apart : (place : ℕ) → ((k : ℕ) → k < length p.starts → start_of p k ≡ place → ⊥) → (i j d : ℕ) → i < j
      → j < length (place ∷ p.starts) → eqb (get_or (place ∷ p.starts) i d) (get_or (place ∷ p.starts) j d) ≡ false
  with_apart place free i j d l h = search (rules, ne_eqb, p.starts, get_or_default, starts_apart)

  with_small : (place : ℕ) → place < length p.rows → (q : ℕ) → list_any (eqb q) (place ∷ p.starts) ≡ true
      → q < length p.rows
  with_small place l q t = grind (arith, common_steps, starts_small)

  -- where a block has a place past its start, there are fewer blocks than rows
  pub blocks_fewer : (place : ℕ) {b : ℕ} → b < length p.sizes → start_of p b < place
      → place < start_of p b + size_of p b → length p.sizes < length p.rows
  blocks_fewer place {b} hb lo hi =
      let s = w.starts_len in
      let l : place < length p.rows = omega arith in
      let c : length (place ∷ p.starts) ≤ length p.rows =
      length-le_from_distinct_below (place ∷ p.starts) (length p.rows)
      (IsDistinct-from_apart eqb (place ∷ p.starts) (with_apart place (λ k lk e. no_start place k hb lo hi lk e)))
      (with_small place l) in
      omega arith

  -- where there are as many blocks as rows, a row stands at the start of its block
  at_start : length p.sizes ≡ length p.rows → (x : ℕ) → x < length p.rows → place_of p x ≡ start_of p (block_of p x)
  at_start d x l =
      let lo = w.from_start x l in
      let hi = w.to_end x l in
      elim (cases_lt (start_of p (block_of p x)) (place_of p x)) [
        | inl lt ↦ absurd (let f = blocks_fewer (place_of p x) (w.block_at x l) lt hi in omega arith)
        | inr le ↦ omega arith
      ]

  -- and is alone in it
  pub alone : length p.sizes ≡ length p.rows → (x y : ℕ) → x < length p.rows → y < length p.rows
      → block_of p x ≡ block_of p y → x ≡ y
  alone d x y lx ly e = grind (arith, common_steps, at_start)

-- ---- the rows of a block
abbrev pub members : Parts → ℕ → List ℕ
members p b = slice_range p.rows (start_of p b) (start_of p b + size_of p b)

module _ {p : Parts} (w : IsPartition p) {b : ℕ} (hb : b < length p.sizes) where
  pub members_len : length (members p b) ≡ size_of p b
  members_len = simp (length-take, length-drop) (omega arith)

  members_at : (i d : ℕ) → i < size_of p b → get_or (members p b) i d ≡ row_at p (start_of p b + i)
  members_at i d h = grind (arith, common_steps)

  member_block : (row : ℕ) → Contains (members p b) row → (row < length p.rows) × (block_of p row ≡ b)
  member_block row (i, l, e) = grind (arith, common_steps, members_at)

  pub member_at : (row : ℕ) → row < length p.rows → block_of p row ≡ b → is_in (members p b) row ≡ true
  member_at row l e =
      let lo : start_of p b ≤ place_of p row = rw e at (w.from_start row l) in
      let hi : place_of p row < start_of p b + size_of p b = rw e at (w.to_end row l) in
      let i : ℕ = place_of p row - start_of p b in
      let h : i < size_of p b = omega arith in
      let len = members_len in
      let back : start_of p b + i ≡ place_of p row = omega arith in
      let is : get_or (members p b) i 0 ≡ row = grind (arith, common_steps, members_at, w.permuted.row_of_place) in
      list_any_at (eqb row) (members p b) i 0 (omega arith) (eq-eqb row (get_or (members p b) i 0) (sym is))

  pub is_in_members : (row : ℕ) → row < length p.rows → is_in (members p b) row ≡ eqb (block_of p row) b
  is_in_members row l =
      elim (cases_eq (block_of p row) b) [
        | inl e ↦ member_at row l e ∙ sym (eq-eqb (block_of p row) b e)
        | inr ne ↦ elim (cases_Bool (is_in (members p b) row)) [
          | inl t ↦ absurd (ne (member_block row (Contains-from_any (λ x y. eqb-true x y) row (members p b) t)).1)
          | inr f ↦ f ∙ sym (ne_eqb (block_of p row) b ne)
        ]
      ]

  pub members_small : All (λ row. row < length p.rows) (members p b)
  members_small k d l = grind (arith, common_steps, members_at)

  pub members_apart : (i j : ℕ) → i < j → j < length (members p b) → get_or (members p b) i 0 ≡ get_or (members p b) j 0
      → ⊥
  members_apart i j l h e = grind (arith, common_steps)
