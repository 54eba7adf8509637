-- Over an image for all matches `scan` tells the longest matches.
use Rattle.rx_spec.proofs.Prelude.{arith, ◌≡◌, ℕ, List, ◌++◌, length, drop, ap, ◌∙◌, common_steps, drop-append_seam}
use Rattle.rx_spec.proofs.Prelude.{All, AreBytes, Expression, IsLoopSafe, Table}
use Rattle.rx_plan.specs.Plans.{Plan}
use Rattle.rx_spec.specs.declared.Form.{Form}
use Rattle.rx_meaning.specs.AllBuilds.{all_build}
use Rattle.rx_meaning.specs.AllMatches.{ServesAll}
use Rattle.rx_dense.specs.Layouts as dense
use Rattle.rx_regex.specs.Images.{IsImageOf}
use Rattle.rx_regex.specs.declared.plan_table.PlanTable.{PlanTable}
use Rattle.rx_regex.proofs.Served.{all_tables_serve}
use Rattle.rx_scan.proofs.TokensAreLongest.{tokens_are_longest}
use Rattle.rx_sparse.specs.Layouts as sparse
use Rattle.rx_wire.specs.declared.order.Order.{Order}
use Rattle.rx_main.specs.Check.{reading_reply}
use Rattle.rx_main.specs.Lines.{Reply}
use Rattle.rx_main.specs.Scan.{ScanReplies, ScanTellsMatches, TellsMatches, dense_scan_reply, scanned_reply}
use Rattle.rx_main.specs.Scan.{sparse_scan_reply}

module _ (p : Plan) (es : List Expression) (order : Order) (image text : List ℕ) (bytes : AreBytes text)
    (reply : Reply) where
  -- the tokens by a table that tells all matches
  tells : (t : Table) → ServesAll t (all_build p es) → All IsLoopSafe es
      → reply ≡ scanned_reply t (drop (length image) (image ++ text)) → TellsMatches p es text reply
  tells t serves safe told = record {
    table = t;
    serves = serves;
    told = told ∙ ap (scanned_reply t) (drop-append_seam image text);
    longest = tokens_are_longest t p es text serves safe bytes;
  }

  by_form : (form : Form) → IsImageOf form p PlanTable.All es order image → ScanReplies form (image ++ text) reply
      → TellsMatches p es text reply
  by_form Form.Dense is told =
      tells (dense.table_of is.layout) ((all_tables_serve p es).0 is.layout is.built) is.safe
      (told ∙ ap (reading_reply (dense_scan_reply (image ++ text))) (is.read text))
  by_form Form.Sparse is told =
      tells (sparse.table_of is.stored.layout) ((all_tables_serve p es).1 is.stored is.built) is.safe
      (told ∙ ap (reading_reply (sparse_scan_reply (image ++ text))) (is.read text))

pub scan_tells_matches : ScanTellsMatches
scan_tells_matches script order image is text bytes reply told = grind (arith, common_steps, by_form)
