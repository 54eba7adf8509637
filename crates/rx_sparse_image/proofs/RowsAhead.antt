-- The bytes from a row on, in a loop over all rows.
use Rattle.rx_spec.proofs.Prelude.{◌≡◌, ℕ, ◌+◌, ◌-◌, ◌<◌, ◌≤◌, List, length, take, drop, get_or, length-drop, refl, ap}
use Rattle.rx_spec.proofs.Prelude.{sym, ◌∙◌, subst, arith, id_of}
use Rattle.rx_wire.specs.declared.order.Order.{Order}
use Rattle.rx_sparse.specs.Facts.{offset_at}
use Rattle.rx_sparse.specs.Parts.{IsWholeRow}
use Rattle.rx_sparse.specs.Rows.{Row, no_row, offsets, row_in, row_len, rows_in, rows_len}
use Rattle.rx_sparse.proofs.RowPlaces.{length-rows_in}
use Rattle.rx_sparse_image.specs.Turned.{AreWholeRows}
use Rattle.rx_sparse_image.proofs.Pieces.{next_there, place_within, there_is, whole_there}

module _ {order : Order} {count : ℕ} {bytes : List ℕ} (are : AreWholeRows order count bytes) where
  abbrev rows : List Row
  rows = rows_in order count bytes

  module _ (i : ℕ) (h : i < count) {rest : List ℕ}
      (here : rest ≡ drop (rows_len (take i (rows_in order count bytes))) bytes) where
    pub whole_here : IsWholeRow order rest
    whole_here = subst (IsWholeRow order) (sym here) (whole_there order count bytes are i h)

    pub row_here : row_in order rest ≡ get_or (rows_in order count bytes) i no_row
    row_here = ap (row_in order) here ∙ there_is order count bytes are i h

    -- as many bytes are behind as the rows before it have
    pub place_here : length bytes - length rest ≡ rows_len (take i (rows_in order count bytes))
    place_here =
        omega (
          arith,
          ap length here,
          length-drop (rows_len (take i rows)) bytes,
          place_within order count bytes are i h,
        )

    pub next_here : drop (row_len (row_in order rest)) rest
        ≡ drop (rows_len (take (i + 1) (rows_in order count bytes))) bytes
    next_here = ap (λ t. drop (row_len (row_in order t)) t) here ∙ next_there order count bytes are i h

  -- all rows are ahead of the first
  pub all_ahead : bytes ≡ drop (rows_len (take 0 (rows_in order count bytes))) bytes
  unfolding rows_len
  all_ahead = refl

  -- the second row begins behind the first
  pub second_here : 2 ≤ count → {rest : List ℕ} → rest ≡ drop (row_len (row_in order bytes)) bytes
      → length bytes - length rest ≡ id_of (offsets (rows_in order count bytes)) 1
  second_here two behind =
      place_here 1 (omega arith) (behind ∙ next_here 0 (omega arith) all_ahead)
      ∙ sym (offset_at 0 rows 1 (omega (arith, length-rows_in order count bytes)) ∙ (omega arith))
