-- Rows and their ids: the one names the other, and those of a dense table are multiples of its stride.
use Rattle.rx_spec.proofs.Prelude.{common_steps, ◌≡◌, ℕ, ◌*◌, ◌^◌, ◌<◌, ◌==◌, List, refl, ap, sym, ◌∙◌, arith, Contains}
use Rattle.rx_spec.proofs.Prelude.{position_or_len, ne_eqb, eq-eqb, get_or_default, length-map-range_with_len}
use Rattle.rx_spec.proofs.Prelude.{get_or-map-range_with_len, position_or_len_is, pow_pos, AreIds, id_of, row_of}
use Rattle.std.proofs.lemmas.List.Kept.{AllPairs-from_increasing}
use Rattle.rx_spec.specs.Ids.{dense_ids}

-- no two rows have one id
pub id_apart : {size : ℕ} {ids : List ℕ} → AreIds size ids → (x y : ℕ) → x < size → y < size
    → id_of ids x ≡ id_of ids y → x ≡ y
id_apart {size} {ids} are x y hx hy same =
    let n = are.count in
    let rises = AllPairs-from_increasing ids are.rising in
    grind (arith, common_steps)

-- the row of a row's id
pub row_of-id_of : {size : ℕ} {ids : List ℕ} → AreIds size ids → (row : ℕ) → row < size
    → row_of ids (id_of ids row) ≡ row
row_of-id_of {size} {ids} are row h =
    let n = are.count in
    let id = id_of ids row in
    let test = λ (other : ℕ). other == id in
    let first : position_or_len test ids ≡ row =
    position_or_len_is test ids row 0 (omega arith)
    (λ k low. ne_eqb (id_of ids k) id (λ same. (let e = id_apart are k row (omega arith) h same in omega arith)))
    (λ l. eq-eqb id id refl) in
    grind (arith, common_steps)

-- the id of an id's row
pub id_of-row_of : {size : ℕ} {ids : List ℕ} → AreIds size ids → (id : ℕ) → Contains ids id
    → id_of ids (row_of ids id) ≡ id
id_of-row_of {size} {ids} are id (k, h, e) =
    let there : id_of ids k ≡ id = get_or_default ids k 0 id h ∙ e in
    ap (λ x. id_of ids (row_of ids x)) (sym there) ∙ ap (id_of ids) (row_of-id_of are k (omega arith)) ∙ there

-- ---- dense tables

pub id_of-dense : (size stride2 row : ℕ) → row < size → id_of (dense_ids size stride2) row ≡ row * 2 ^ stride2
id_of-dense size stride2 row h = grind (arith, common_steps, get_or-map-range_with_len)

pub dense_are_ids : (size stride2 : ℕ) → AreIds size (dense_ids size stride2)
dense_are_ids size stride2 = grind (arith, common_steps, length-map-range_with_len, id_of-dense, pow_pos)
