-- Rows while they are moved: each exchange puts one row at its place.
use Rattle.rx_spec.proofs.Prelude.{common_steps, ◌≡◌, ◌≢◌, ℕ, ◌+◌, ◌*◌, ◌^◌, ◌<◌, ◌≤◌, List, length, slice_index, refl}
use Rattle.rx_spec.proofs.Prelude.{ap, All, sym, ◌∙◌, subst, ⊎_elim, inl, inr, arith, get_or, range_with_len, swap}
use Rattle.rx_spec.proofs.Prelude.{IsPermutation, cases_eq, cases_lt, pow_pos, row_fits, length-swap}
use Rattle.rx_spec.proofs.Prelude.{get_or-range_with_len, length-range_with_len, length-map-range_with_len}
use Rattle.rx_spec.proofs.Prelude.{get_or-map-range_with_len, All-from_get_or, All-permutation, IsPermutation-swap}
use Rattle.rx_spec.proofs.Prelude.{length_permutation}
use Rattle.rx_order.proofs.Prelude.{AreMoved, AreSwapped, AreUnmoved, IsId, IsId-row_id, IsOutside, IsPermutation-refl}
use Rattle.rx_order.proofs.Prelude.{IsPermutation-trans, IsRowId-row, Layout, LiesAt, Swapped, ids_of, row_count}
use Rattle.rx_order.proofs.Prelude.{stride, swapped_from_swap}
use Rattle.rx_order.proofs.ExchangedRows.{count_of, places_apart, row_below}

-- multiples of a number are told by their factors
pub factor : {s : ℕ} → 0 < s → (a b : ℕ) → a * s ≡ b * s → a ≡ b
factor {s} some a b e = grind (arith, common_steps, row_fits, cases_lt)

pub ids_count : (l : Layout) → length (ids_of l) ≡ row_count l
ids_count l = length-map-range_with_len (λ row. row * 2 ^ l.stride2) 0 (row_count l)

-- ---- before the first exchange

pub unmoved : (l : Layout) (lying ids : List ℕ) → AreUnmoved l lying ids → AreMoved l l lying ids
unmoved l lying ids is =
    let n : ℕ = row_count l in
    let count : length lying ≡ n = ap length is.rows ∙ length-range_with_len 0 n in
    let row = λ (k : ℕ) (h : k < n).
    let first : 0 + k ≡ k = omega arith in
    let at : slice_index lying k ≡ k =
    ap (λ xs. slice_index xs k) is.rows ∙ get_or-range_with_len 0 n k 0 h ∙ first in
    at in
    let id = λ (k : ℕ) (h : k < n).
    let at : slice_index ids k ≡ k * stride l =
    ap (λ xs. slice_index xs k) is.places
    ∙ get_or-map-range_with_len (λ row. row * 2 ^ l.stride2) 0 n k k 0 h (omega arith) in
    at in
    record {
      rest = refl;
      count = refl;
      places = count;
      permutation = subst (IsPermutation (ids_of l)) (sym is.places) (IsPermutation-refl (ids_of l));
      rows = λ place h. (omega (arith, row place h), ap (slice_index ids) (row place h) ∙ id place h);
      lies = λ k h. record { place = k; below = omega arith; id = id k h; there = row k h };
      words = λ place column h c. ap (λ r. slice_index l.words (r * stride l + column)) (sym (row place h));
    }

-- ---- ids

pub same_ids : {old now : Layout} {lying ids : List ℕ} → AreMoved old now lying ids → ids_of now ≡ ids_of old
same_ids moved = grind (arith, common_steps)

pub id_of_place : {old now : Layout} {lying ids : List ℕ} → AreMoved old now lying ids → (place id : ℕ)
    → place < row_count old → id ≡ place * stride old → IsId (ids_of now) id
id_of_place {old} moved place id h e =
    subst (λ xs. IsId xs id) (sym (same_ids moved))
    (subst (IsId (ids_of old)) (sym e) (IsId-row_id old (place * stride old) (IsRowId-row old place h)))

pub all_ids : {old now : Layout} {lying ids : List ℕ} → AreMoved old now lying ids → All (IsId (ids_of now)) ids
all_ids {old} {now} {lying} {ids} moved =
    subst (λ xs. All (IsId xs) ids) (sym (same_ids moved))
    (All-permutation (IsId (ids_of old)) (ids_of old) ids moved.permutation
    (All-from_get_or (IsId (ids_of old)) (ids_of old) 0
    (λ k h.
    let low : k < row_count old = omega (arith, ids_count old) in
    let at : slice_index (ids_of old) k ≡ k * stride old =
    get_or-map-range_with_len (λ row. row * 2 ^ old.stride2) 0 (row_count old) k k 0 low (omega arith) in
    subst (IsId (ids_of old)) (sym at) (IsId-row_id old (k * stride old) (IsRowId-row old k low)))))

pub id_count : {old now : Layout} {lying ids : List ℕ} → AreMoved old now lying ids → length ids ≡ row_count old
id_count {old} {now} {lying} {ids} moved = grind (arith, common_steps, length_permutation, ids_count)

-- ---- place by place

-- the first places have the rows that are to lie there
pub record ArePlaced (old now : Layout) (lying ids rows : List ℕ) (place : ℕ) : Type 0 where
  pub moved : AreMoved old now lying ids
  pub there : (p : ℕ) → p < place → slice_index lying p ≡ slice_index rows p

-- ---- an exchange

-- Of two rows one lies at a place, and the other at another.
pub record IsExchange (old now : Layout) (lying ids : List ℕ) (row place other from : ℕ) (ws : List ℕ) : Type 0 where
  pub row_below : row < row_count old
  pub place_below : place < row_count old
  pub other_is : other ≡ slice_index lying place
  pub from_is : slice_index ids row ≡ from * stride old
  pub swapped : AreSwapped (stride old) now.words ws (place * stride old) (from * stride old)

module _ {old now : Layout} {lying ids : List ℕ} {row place other from : ℕ} {ws : List ℕ}
    (moved : AreMoved old now lying ids) (x : IsExchange old now lying ids row place other from ws) where
  some : 0 < stride old
  some = pow_pos old.stride2

  lie : LiesAt (stride old) lying ids row
  lie = moved.lies row x.row_below

  from_place : lie.place ≡ from
  from_place = factor some lie.place from (sym lie.id ∙ x.from_is)

  pub from_below : from < row_count old
  from_below = (let below = lie.below in let count = moved.places in omega (arith, from_place))

  pub from_row : slice_index lying from ≡ row
  from_row = ap (slice_index lying) (sym from_place) ∙ lie.there

  pub other_below : other < row_count old
  other_below = omega (arith, (moved.rows place x.place_below).0, x.other_is)

  pub other_id : slice_index ids other ≡ place * stride old
  other_id = ap (slice_index ids) x.other_is ∙ (moved.rows place x.place_below).1

  lying_swapped : Swapped (λ i. get_or lying i 0) (λ i. get_or (swap lying place from) i 0) place from
  lying_swapped =
      swapped_from_swap lying (swap lying place from) place from 0 (omega (arith, moved.places, x.place_below))
      (omega (arith, moved.places, from_below)) refl

  ids_swapped : Swapped (λ i. get_or ids i 0) (λ i. get_or (swap ids row other) i 0) row other
  ids_swapped =
      swapped_from_swap ids (swap ids row other) row other 0 (omega (arith, id_count moved, x.row_below))
      (omega (arith, id_count moved, other_below)) refl

  pub row_there : slice_index (swap lying place from) place ≡ row
  row_there = lying_swapped.0 ∙ from_row

  other_there : slice_index (swap lying place from) from ≡ other
  other_there = lying_swapped.1 ∙ sym x.other_is

  row_id : slice_index (swap ids row other) row ≡ place * stride old
  row_id = ids_swapped.0 ∙ other_id

  other_id_now : slice_index (swap ids row other) other ≡ from * stride old
  other_id_now = ids_swapped.1 ∙ x.from_is

  pub elsewhere : (p : ℕ) → p ≢ place → p ≢ from → slice_index (swap lying place from) p ≡ slice_index lying p
  elsewhere p np nf = lying_swapped.2 p np nf

  by_place : {X : Type 0} (p : ℕ) → (p ≡ place → X) → (p ≡ from → X) → (p ≢ place → p ≢ from → X) → X
  by_place p at_place at_from at_other = grind (arith, common_steps, cases_eq)

  rows_now : (p : ℕ) → p < row_count old
      → (slice_index (swap lying place from) p < row_count old)
      × (slice_index (swap ids row other) (slice_index (swap lying place from) p) ≡ p * stride old)
  rows_now p h =
      by_place p
      (λ e. rw (e, row_there) (x.row_below, row_id))
      (λ e. rw (e, other_there) (other_below, other_id_now))
      (λ np nf.
      let was = moved.rows p h in
      let not_row : slice_index lying p ≢ row = λ e.
      nf (factor some p from (sym was.1 ∙ ap (slice_index ids) e ∙ x.from_is)) in
      let not_other : slice_index lying p ≢ other = λ e.
      np (factor some p place (sym was.1 ∙ ap (slice_index ids) e ∙ other_id)) in
      rw (elsewhere p np nf) (was.0, ids_swapped.2 (slice_index lying p) not_row not_other ∙ was.1))

  lies_now : (r : ℕ) → r < row_count old → LiesAt (stride old) (swap lying place from) (swap ids row other) r
  lies_now r h =
      let count : length (swap lying place from) ≡ row_count old = length-swap lying place from ∙ moved.places in
      ⊎_elim
      (λ (e : r ≡ row). record {
        place = place;
        below = omega (arith, x.place_below);
        id = ap (slice_index (swap ids row other)) e ∙ row_id;
        there = row_there ∙ sym e;
      })
      (λ (nr : r ≡ row → ⊥).
      ⊎_elim
      (λ (e : r ≡ other). record {
        place = from;
        below = omega (arith, from_below);
        id = ap (slice_index (swap ids row other)) e ∙ other_id_now;
        there = other_there ∙ sym e;
      })
      (λ (no : r ≡ other → ⊥).
      let was = moved.lies r h in
      let np : was.place ≢ place = λ e. no (sym was.there ∙ ap (slice_index lying) e ∙ sym x.other_is) in
      let nf : was.place ≢ from = λ e. nr (sym was.there ∙ ap (slice_index lying) e ∙ from_row) in
      let here : LiesAt (stride old) (swap lying place from) (swap ids row other) r = record {
        place = was.place;
        below = (let b = was.below in omega (arith, moved.places));
        id = ids_swapped.2 r nr no ∙ was.id;
        there = elsewhere was.place np nf ∙ was.there;
      } in
      here)
      (cases_eq r other))
      (cases_eq r row)

  -- another row's words lie outside
  outside : (p k c : ℕ) → p ≢ k → c < stride old → IsOutside (k * stride old) (stride old) (p * stride old + c)
  outside p k c ne h =
      ⊎_elim
      (λ (low : p < k). inl (omega (arith, row_fits p (stride old) k (stride old) low (omega arith))))
      (λ (high : k ≤ p).
      ⊎_elim
      (λ (e : p ≡ k). absurd (ne e))
      (λ (other : p ≡ k → ⊥).
      let above : k < p = omega arith in
      inr (omega (arith, row_fits k (stride old) p (stride old) above (omega arith))))
      (cases_eq p k))
      (cases_lt p k)

  words_now : (p c : ℕ) → p < row_count old → c < stride old
      → slice_index ws (p * stride old + c)
      ≡ slice_index old.words (slice_index (swap lying place from) p * stride old + c)
  words_now p c h low =
      by_place p
      (λ e.
      rw (e, row_there)
      (x.swapped.at_first c low ∙ moved.words from c from_below low
      ∙ ap (λ r. slice_index old.words (r * stride old + c)) from_row))
      (λ e.
      rw (e, other_there)
      (x.swapped.at_second c low ∙ moved.words place c x.place_below low
      ∙ ap (λ r. slice_index old.words (r * stride old + c)) (sym x.other_is)))
      (λ np nf.
      rw (elsewhere p np nf)
      (x.swapped.others (p * stride old + c) (outside p place c np low) (outside p from c nf low)
      ∙ moved.words p c h low))

  pub exchanged : AreMoved old (record now { words = ws }) (swap lying place from) (swap ids row other)
  exchanged = record {
    rest = ap (λ (l : Layout). record l { words = ws }) moved.rest;
    count = x.swapped.count ∙ moved.count;
    places = length-swap lying place from ∙ moved.places;
    permutation =
        IsPermutation-trans (ids_of old) ids (swap ids row other) moved.permutation
        (IsPermutation-swap ids (swap ids row other) row other (omega (arith, id_count moved, x.row_below))
        (omega (arith, id_count moved, other_below)) refl);
    rows = rows_now;
    lies = lies_now;
    words = words_now;
  }

  -- what lies at the places before stays there
  pub placed : (rows : List ℕ) → IsPermutation (range_with_len 0 (row_count old)) rows → row ≡ slice_index rows place
      → ((p : ℕ) → p < place → slice_index lying p ≡ slice_index rows p)
      → (p : ℕ) → p < place + 1 → slice_index (swap lying place from) p ≡ slice_index rows p
  placed rows perm row_is before p h =
      ⊎_elim
      (λ (e : p ≡ place). ap (slice_index (swap lying place from)) e ∙ row_there ∙ row_is
      ∙ ap (slice_index rows) (sym e))
      (λ (np : p ≡ place → ⊥).
      let low : p < place = omega arith in
      let nf : p ≢ from = λ e.
      let same : slice_index rows p ≡ slice_index rows place =
      sym (before p low) ∙ ap (slice_index lying) e ∙ from_row ∙ row_is in
      np (places_apart perm p place (omega (arith, x.place_below)) x.place_below same) in
      elsewhere p np nf ∙ before p low)
      (cases_eq p place)

-- ---- a turn of the loop

-- what a turn reads
pub record IsTurn (old : Layout) (lying ids : List ℕ) (row place : ℕ) : Type 0 where
  pub place_below : place < row_count old
  pub row_below : row < row_count old
  pub other_below : slice_index lying place < row_count old
  pub lying_count : length lying ≡ row_count old
  pub ids_count : length ids ≡ row_count old
  pub other_id : slice_index ids (slice_index lying place) ≡ place * stride old
  pub from : LiesAt (stride old) lying ids row

pub turn : {old now : Layout} {lying ids rows : List ℕ} {place : ℕ} → ArePlaced old now lying ids rows place
    → IsPermutation (range_with_len 0 (row_count old)) rows → place < length rows
    → IsTurn old lying ids (slice_index rows place) place
turn {old} {now} {lying} {ids} {rows} {place} placed perm h =
    let below : place < row_count old = omega (arith, count_of perm) in
    let row = row_below perm place below in
    let at = placed.moved.rows place below in
    record {
      place_below = below;
      row_below = row;
      other_below = at.0;
      lying_count = placed.moved.places;
      ids_count = id_count placed.moved;
      other_id = at.1;
      from = placed.moved.lies (slice_index rows place) row;
    }
