-- The columns of a table (columns.rt), to which its rows are added so many at a time, turned into columns (table.rt).
use Rattle.rx_refine.proofs.Prelude.{All, AreColumns, AreMoves, IsLayout, Layout, List, Moves, [], ap, arith, cases_eq}
use Rattle.rx_refine.proofs.Prelude.{cases_lt, common_steps, get_or, get_or-append_right, get_or-set_other}
use Rattle.rx_refine.proofs.Prelude.{get_or-set_same, get_or_append_left, get_or_default, get_or_past, get_or_read, inl}
use Rattle.rx_refine.proofs.Prelude.{inr, length, length-append, mul-le-mul_right, next_at, refl, set, slice_range, sym}
use Rattle.rx_refine.proofs.Prelude.{ℕ, ◌*◌, ◌++◌, ◌+◌, ◌-◌, ◌<◌, ◌∙◌, ◌∷◌, ◌≡◌, ◌≤◌}
use Rattle.std.proofs.lemmas.Nat.{same_from_place, mul-add-lt}
use Rattle.std.proofs.Math.Seq.{get_or-append_seam}

-- ---- next rows that are copied row by row, so that they stand unit by unit
-- of so many rows from `first` on, `n` next rows are copied
pub record AreTransposed (t : Layout) (first count n : ℕ) (transposed : List ℕ) : Type 0 where
  pub copied : (row unit : ℕ) → row < count → unit < t.units → row * t.units + unit < n
      → get_or transposed (unit * count + row) 0 ≡ next_at t (first + row) unit

pub AreTransposed-set : {t : Layout} {first count row unit : ℕ} {transposed : List ℕ}
    → AreTransposed t first count (row * t.units + unit) transposed → row < count → unit < t.units
    → count * t.units ≤ length transposed
    → AreTransposed t first count (row * t.units + (unit + 1))
    (set transposed (unit * count + row) (next_at t (first + row) unit))
AreTransposed-set {t} {first} {count} {row} {unit} {transposed} a lr lu room =
    let place : ℕ = unit * count + row in
    let value : ℕ = next_at t (first + row) unit in
    let in' : place < length transposed = omega (arith, mul-add-lt unit count row t.units lu lr) in
    record {
      copied = λ r u hr hu h. elim (cases_eq (r * t.units + u) (row * t.units + unit)) [
        | inl e ↦
            let same = same_from_place r u row unit t.units hu lu e in
            rw (same.0, same.1) (get_or-set_same transposed place value 0 in')
        | inr ne ↦
            get_or-set_other transposed place (u * count + r) value 0
            (λ e. let same = same_from_place u r unit row count hr lr e in ne (rw (same.0, same.1) refl))
            ∙ a.copied r u hr hu (omega arith)
      ];
    }

-- all of them are
pub AreTransposed-all : {t : Layout} {first count n : ℕ} {transposed : List ℕ}
    → AreTransposed t first count (n * t.units) transposed → count ≤ n → (row unit : ℕ) → row < count → unit < t.units
    → get_or transposed (unit * count + row) 0 ≡ next_at t (first + row) unit
AreTransposed-all {t} {count = count} a le row unit r u =
    a.copied row unit r u (omega (arith, mul-add-lt row t.units unit count r u, mul-le-mul_right t.units le))

-- ---- columns that grow by so many rows

module _ {t : Layout} {first : ℕ} {old : List (List ℕ)} (a : AreColumns t first old) (count : ℕ)
    (transposed : List ℕ) (room : t.units * count ≤ length transposed)
    (moved : (row unit : ℕ) → row < count → unit < t.units
    → get_or transposed (unit * count + row) 0 ≡ next_at t (first + row) unit) where
  part-length : (unit : ℕ) → unit < t.units
      → length (slice_range transposed (unit * count) ((unit + 1) * count)) ≡ count
  part-length unit h = grind (arith, common_steps)

  part-get_or : (row unit : ℕ) → row < count → unit < t.units
      → get_or (slice_range transposed (unit * count) ((unit + 1) * count)) row 0 ≡ next_at t (first + row) unit
  part-get_or row unit r u = grind (arith, common_steps)

  pub AreColumns-grown : (new : List (List ℕ)) → length new ≡ length old
      → ((unit : ℕ) → unit < length old
      → get_or new unit [] ≡ get_or old unit [] ++ slice_range transposed (unit * count) ((unit + 1) * count))
      → AreColumns t (first + count) new
  AreColumns-grown new len added =
      let grown = λ (unit : ℕ) (h : unit < t.units). added unit (let c = a.count in omega arith) in
      record {
        count = len ∙ a.count;
        lengths = grind (arith, common_steps, part-length);
        cells = λ row unit r h.
            let part : List ℕ = slice_range transposed (unit * count) ((unit + 1) * count) in
            let column : List ℕ = get_or old unit [] in
            let cell : get_or (column ++ part) row 0 ≡ next_at t row unit = elim (cases_lt row first) [
              | inl l ↦ get_or_append_left column part 0 row (omega arith) ∙ a.cells row unit l h
              | inr g ↦
                  let e : first + (row - first) ≡ row = omega arith in
                  get_or-append_right column part first row 0 (a.lengths unit h) g
                  ∙ part-get_or (row - first) unit (omega arith) h
                  ∙ ap (λ k. next_at t k unit) e
            ] in
            ap (λ xs. get_or xs row 0) (grown unit h) ∙ cell;
      }

-- ---- the columns of a whole table

-- a column among others has rows of the table
pub column_small : {t : Layout} (before : List (List ℕ)) (x : List ℕ) (rest : List (List ℕ)) → IsLayout t
    → AreColumns t t.rows (before ++ x ∷ rest) → All (λ k. k < length x) x
column_small {t} before x rest i a k d l =
    let unit : ℕ = length before in
    let is : get_or (before ++ x ∷ rest) unit [] ≡ x = get_or-append_seam before x rest [] in
    let h : unit < t.units = let c = a.count in omega (arith, length-append before (x ∷ rest)) in
    let size : length x ≡ t.rows = ap length (sym is) ∙ a.lengths unit h in
    let cell : get_or x k 0 ≡ next_at t k unit = ap (λ xs. get_or xs k 0) (sym is) ∙ a.cells k unit (omega arith) h in
    rw (get_or_default x k d 0 l, size, cell) (i.nexts k unit (omega arith) h)

-- a row has a group in the list that is read for a unit
pub group_of_row : {m : Moves} {row unit : ℕ} → AreMoves m → row < m.rows → unit < m.units → (x : List ℕ)
    → x ≡ get_or m.columns unit x → row < length x
group_of_row {m} {row} {unit} a r u x e =
    elim (cases_lt unit (length m.columns)) [
      | inl l ↦ omega (arith, ap length (get_or_read m.columns unit x l e []))
      | inr g ↦ absurd (let none = ap length (get_or_past m.columns unit [] g) in omega arith)
    ]
