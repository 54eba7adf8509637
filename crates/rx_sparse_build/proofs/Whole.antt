-- What is known of a table in order makes a layout that can be written and read again.
use Rattle.rx_spec.proofs.Prelude.{refl, arith, IsSound, pow_pos, and_from}
use Rattle.rx_dense.specs.Layouts.{AreRows, Layout, table_of}
use Rattle.rx_order.specs.RowOrder.{IsOrdered}
use Rattle.rx_dense_image.specs.Closing.{are_special_rows, are_named}
use Rattle.rx_dense_image.specs.Images.{IsWhole}
use Rattle.rx_sparse_build.specs.Finished.{IsFinished}
use Rattle.rx_sparse_build.proofs.WholeAccels.{accels_closed, accels_read}
use Rattle.rx_sparse_build.proofs.WholeLists.{lists_closed, lists_read}
use Rattle.rx_sparse_build.proofs.WholeRows.{rows_closed, rows_read}
use Rattle.rx_sparse_build.proofs.WholeSpecial.{special_read, special_pass, named}
use Rattle.rx_sparse_build.proofs.Ordered.{special_rows}
use Rattle.rx_sparse_build.proofs.WholeStarts.{starts_closed, table_read}

module _ (l : Layout) (is : IsFinished l) where
  abbrev rows : AreRows l
  rows = is.shaped.rows

  abbrev sound : IsSound (table_of l)
  sound = is.in_order.sound

  abbrev ordered : IsOrdered l
  ordered = is.in_order.ordered

  pub whole : IsWhole l
  whole = record {
    read = record {
      rows = rows_read l rows;
      table = table_read l is.shaped is.universal;
      lists = lists_read l is.shaped sound ordered.matches is.joined;
      marks = record {
        special = special_read l rows sound ordered;
        within = omega (arith, (special_rows l rows ordered).max.below, pow_pos l.stride2);
        accels = accels_read l rows sound ordered.accels is.counted ordered.quit is.shaped.lists.few_accels;
        quit = is.quit;
      };
    };
    closed =
        rw (
          rows_closed l rows sound,
          and_from (are_special_rows l l.special) (are_named l) (special_pass l rows sound ordered)
              (named l rows sound ordered),
          starts_closed l is.shaped is.universal sound ordered.quit,
          lists_closed l is.shaped sound ordered.matches is.joined,
          accels_closed l rows sound ordered.accels is.counted ordered.quit,
        )
        refl;
  }
