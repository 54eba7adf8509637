-- A dense table that can be read has a sparse table that can be read, where that isn't too long.
use Rattle.rx_spec.proofs.Prelude.{◌≡◌, ℕ, ◌/◌, ◌≤◌, sym, ap, subst, ◌∙◌, arith, mul-div_cancel, pow_pos, max_id, id_of}
use Rattle.rx_search.specs.Starts.{IsId}
use Rattle.rx_dense.specs.Builder.{renamed_id}
use Rattle.rx_dense.specs.Layouts.{IsRowId, IsShaped, Layout as Dense, stride}
use Rattle.rx_dense_image.specs.Images.{IsWhole as IsWholeDense}
use Rattle.rx_dense_image.proofs.ClosedFacts as dense_closed
use Rattle.rx_dense_image.proofs.ShapedImages as dense_shaped
use Rattle.rx_dense_image.proofs.SoundImages as dense_sound
use Rattle.rx_sparse.specs.Layouts.{ids_of}
use Rattle.rx_sparse.specs.Sparse.{AreSpecialRows, offsets_of, sparse_len, sparse_of}
use Rattle.rx_sparse.proofs.SparseShapes.{sparse_shaped}
use Rattle.rx_sparse.proofs.SparseTables.{ids_same, renamed_is_id, sparse_sound}
use Rattle.rx_sparse_image.specs.Tested.{IsWhole}
use Rattle.rx_sparse_build.proofs.DenseSpecial.{special_rows}
use Rattle.rx_sparse_build.proofs.ClosedTables.{closed}
use Rattle.rx_sparse_build.proofs.Ready.{IsReady}
use Rattle.rx_sparse_build.proofs.RenamedSpecial.{special_same}
use Rattle.rx_sparse_build.proofs.TestedRows.{read}

module _ (l : Dense) (is : IsWholeDense l) (short : sparse_len l ≤ max_id) where
  shaped : IsShaped l
  shaped = dense_shaped.shaped l is

  special : AreSpecialRows l
  special = special_rows l is

  -- the offset of a row is an id of the sparse table
  is_id : (id : ℕ) → IsRowId l id → IsId (ids_of (sparse_of l)) (renamed_id l (offsets_of l) id)
  is_id id row =
      subst (λ ids. IsId ids (renamed_id l (offsets_of l) id)) (sym (ids_same l shaped.rows))
      (renamed_is_id l shaped.rows id row)

  -- its sparse table is ready to be written
  ready : IsReady (sparse_of l)
  ready = record {
    shaped = sparse_shaped l shaped (dense_sound.sound l is) special short;
    sound = sparse_sound l shaped special (dense_sound.sound l is);
    second =
        let row : l.special.quit / stride l ≡ 1 =
        ap (λ (n : ℕ). n / stride l) ((dense_closed.closed l is.closed).special.quit ∙ sym (omega arith))
        ∙ mul-div_cancel 1 (pow_pos l.stride2) in
        ap (id_of (offsets_of l)) row ∙ sym (ap (λ ids. id_of ids 1) (ids_same l shaped.rows));
    rows = record {
      max = is_id l.special.max special.max;
      min_match = is_id l.special.min_match special.min_match;
      max_match = is_id l.special.max_match special.max_match;
      min_accel = is_id l.special.min_accel special.min_accel;
      max_accel = is_id l.special.max_accel special.max_accel;
      min_start = is_id l.special.min_start special.min_start;
      max_start = is_id l.special.max_start special.max_start;
    };
    special = special_same l shaped.rows special ∙ is.read.marks.special;
    quit = is.read.marks.quit;
  }

  pub whole : IsWhole (sparse_of l)
  whole = record { read = read (sparse_of l) ready; closed = closed (sparse_of l) ready }
