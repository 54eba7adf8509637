-- An image whose parts were read and whose rows were walked: another number of rows is refused, and where the parts fit
-- each other, the layout can be read.
use Rattle.rx_spec.proofs.Prelude.{arith, ◌≡◌, ℕ, true, false, Ok, Err, List, refl, sym, subst, ◌∙◌, common_steps}
use Rattle.rx_spec.proofs.Prelude.{ne_eqb}
use Rattle.rx_wire.specs.Kinds.{Kind}
use Rattle.rx_sparse.specs.Layouts.{row_count}
use Rattle.rx_sparse.specs.Parts.{AreParts as ArePartsOf}
use Rattle.rx_sparse.specs.Rows.{Row, rows_in}
use Rattle.rx_sparse.proofs.RowPlaces.{length-rows_in}
use Rattle.rx_sparse_image.specs.declared.read.Image.{Image}
use Rattle.rx_sparse_image.specs.declared.rows.Bounds.{Bounds}
use Rattle.rx_sparse_image.specs.Closing.{is_closed}
use Rattle.rx_sparse_image.specs.Images.{Parts, bounds_of, layout_of, parts_at, reads}
use Rattle.rx_sparse_image.specs.Reading.{IsReadImage, image_layout, seen_image}
use Rattle.rx_sparse_image.specs.Tested.{AreTestedRows, IsWhole}
use Rattle.rx_sparse_image.specs.Turned.{AreWholeRows}
use Rattle.rx_sparse_image.specs.Walks.{rows_at}
use Rattle.rx_sparse_image.proofs.ReadLayouts.{is_read}
use Rattle.rx_sparse_image.proofs.ShapedImages.{shaped}

-- ---- another number of rows

refused : (bytes rest : List ℕ) (p : Parts) (rows : List Row) → parts_at bytes ≡ Ok (p, rest)
    → rows_at (bounds_of p) p.bytes.rows ≡ Ok rows → is_closed p.bytes.state_len (layout_of p rows) ≡ false
    → reads bytes ≡ Err Kind.Generic
unfolding reads
refused bytes rest p rows there read test = rw (there, read, test) refl

pub miscounted_image : (bytes rest : List ℕ) (i : Image) (b : Bounds) (count : ℕ)
    → parts_at bytes ≡ Ok (seen_image i, rest) → b ≡ bounds_of (seen_image i)
    → rows_at b i.rows.now ≡ Ok (rows_in b.order count i.rows.now) → (count ≡ i.parts.state_len → ⊥)
    → reads bytes ≡ Err Kind.Generic
miscounted_image bytes rest i b count there bounds read other =
    let rows : List Row = rows_in b.order count i.rows.now in
    refused bytes rest (seen_image i) rows there
    (subst (λ (x : Bounds). rows_at x i.rows.now ≡ Ok rows) bounds read)
    (rw (ne_eqb (row_count (layout_of (seen_image i) rows)) i.parts.state_len
    (λ e. other (sym (length-rows_in b.order count i.rows.now) ∙ e))) refl)

-- ---- as many rows as were told

-- what walking the rows says
pub record AreWalked (i : Image) (b : Bounds) (count : ℕ) : Type 0 where
  pub bounds : b ≡ bounds_of (seen_image i)
  pub told : count ≡ i.parts.state_len
  pub whole : AreWholeRows b.order count i.rows.now
  pub tested : AreTestedRows b (rows_in b.order count i.rows.now)

module _ (i : Image) (b : Bounds) (count : ℕ) (read : IsReadImage i) (walked : AreWalked i b count)
    (closed : is_closed i.parts.state_len (image_layout i) ≡ true) where
  whole_rows : AreWholeRows i.parts.order i.parts.state_len i.rows.now
  whole_rows = grind (arith, common_steps)

  pub image_whole : IsWhole (image_layout i)
  image_whole = record {
    read = is_read i read (grind (arith, common_steps));
    closed =
        subst (λ told. is_closed told (image_layout i) ≡ true)
        (sym (length-rows_in i.parts.order i.parts.state_len i.rows.now)) closed;
  }

  pub parts_fit : ArePartsOf i.parts i.rows.now i.starts.now
  parts_fit = record {
    whole = sym whole_rows.stands;
    words = read.whole;
    shaped = shaped (image_layout i) image_whole;
  }
