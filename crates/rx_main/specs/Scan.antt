-- What the command `scan` replies to its bytes: an image of a table, then a text that is cut into tokens.
use Rattle.std.specs.Prelude.{ℕ, ◌≡◌, List, ◌++◌, length, drop, codes, All}
use Rattle.std.specs.List.{flat_map}
use Rattle.std.specs.Fmt.{decimal}
use Rattle.rx_spec.specs.Bytes.{AreBytes}
use Rattle.rx_spec.specs.Expressions.{Expression}
use Rattle.rx_plan.specs.Plans.{Plan}
use Rattle.rx_spec.specs.Queries.{Anchored, MatchError}
use Rattle.rx_spec.specs.Tables.{Table}
use Rattle.rx_spec.specs.declared.Form.{Form}
use Rattle.rx_meaning.specs.AllBuilds.{all_build}
use Rattle.rx_meaning.specs.AllMatches.{ServesAll}
use Rattle.rx_dense.specs.Layouts as dense
use Rattle.rx_dense_image.specs.Images as dense_images
use Rattle.rx_plan.specs.Plan.{plan_of}
use Rattle.rx_regex.specs.declared.plan_table.PlanTable.{PlanTable}
use Rattle.rx_scan.specs.Tokens.{IsLongestToken, Tokens, tokens}
use Rattle.rx_scan.specs.declared.token.ScanEnd.{ScanEnd}
use Rattle.rx_scan.specs.declared.token.Token.{Token}
use Rattle.rx_script.specs.Grammar.{Spelled}
use Rattle.rx_sparse.specs.Layouts as sparse
use Rattle.rx_sparse_image.specs.Images as sparse_images
use Rattle.rx_transfer.specs.Words.{newline}
use Rattle.rx_wire.specs.declared.order.Order.{Order}
use Rattle.rx_main.specs.Lines.{Reply, error_reply}
use Rattle.rx_main.specs.Check.{reading_reply}
use Rattle.rx_main.specs.Image.{IsImageReply}

-- its pattern, its span, and the line and the column where it starts
abbrev pub token_line : Token → List ℕ
token_line t =
    codes "token "
    ++ (decimal t.pattern ++ (codes " " ++ (decimal t.span.start ++ (codes " " ++ (decimal t.span.end
    ++ (codes " " ++ (decimal t.line ++ (codes " " ++ (decimal t.column ++ newline)))))))))

-- How the tokens end, after their lines: how many they are where the text is cut to its end, or where no token
-- begins, or an error.
abbrev pub end_reply : List ℕ → ℕ → ScanEnd → Reply
end_reply lines count ScanEnd.Done =
    record { text = lines ++ (codes "tokens " ++ (decimal count ++ newline)); status = 0 }
end_reply lines count (ScanEnd.Stuck offset) =
    record { text = lines ++ (codes "stuck " ++ (decimal offset ++ newline)); status = 1 }
end_reply lines count (ScanEnd.Quit byte offset) = error_reply lines (MatchError.Quit byte offset)
end_reply lines count ScanEnd.Unsupported = error_reply lines (MatchError.UnsupportedAnchored Anchored.Yes)

-- a line for each token, and the line of their end
abbrev pub tokens_reply : Tokens → Reply
tokens_reply all = end_reply (flat_map token_line all.tokens) (length all.tokens) all.end

-- a table and the text behind its image
abbrev pub scanned_reply : Table → List ℕ → Reply
scanned_reply t text = tokens_reply (tokens t text)

-- The bytes begin with an image, and those that come directly behind it are the text.
abbrev pub dense_scan_reply : List ℕ → dense.Layout → ℕ → Reply
dense_scan_reply bytes l size = scanned_reply (dense.table_of l) (drop size bytes)

abbrev pub sparse_scan_reply : List ℕ → sparse.Stored → ℕ → Reply
sparse_scan_reply bytes t size = scanned_reply (sparse.table_of t.layout) (drop size bytes)

abbrev pub scan_reply : Form → List ℕ → Reply
scan_reply Form.Dense bytes = reading_reply (dense_scan_reply bytes) (dense_images.reads bytes)
scan_reply Form.Sparse bytes = reading_reply (sparse_scan_reply bytes) (sparse_images.reads bytes)

abbrev pub ScanReplies : Form → List ℕ → Reply → Type 0
ScanReplies form bytes reply = reply ≡ scan_reply form bytes

-- ---- the law

-- The reply tells the tokens by a table that tells all matches of some expressions: each is the longest match from
-- where the one before it ended, and of the expressions that match so far it is of the lowest.
pub record TellsMatches (plan : Plan) (es : List Expression) (text : List ℕ) (reply : Reply) : Type 0 where
  pub table : Table
  pub serves : ServesAll table (all_build plan es)
  pub told : reply ≡ scanned_reply table text
  pub longest : All (IsLongestToken es plan.line_terminator text) (tokens table text).tokens

-- Over an image that `image all` wrote of a script, `scan` tells the tokens of any text by the script's expressions.
abbrev pub ScanTellsMatches : Type 0
ScanTellsMatches = (script : Spelled) (order : Order) (image : Reply)
    → IsImageReply (plan_of script.plan) PlanTable.All script.exprs order image
    → (text : List ℕ) → AreBytes text → (reply : Reply)
    → ScanReplies (plan_of script.plan).form (image.text ++ text) reply
    → TellsMatches (plan_of script.plan) script.exprs text reply
