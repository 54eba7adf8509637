-- What the command `search` replies to its bytes: an image of a pair of tables, then a haystack.
use Rattle.std.specs.Prelude.{ℕ, ◌≡◌, ◌+◌, Bool, false, if◌then◌else◌, ◌&&◌, nat_le, List, [], length, take, drop}
use Rattle.std.specs.Prelude.{codes, ◌++◌, Ok, Err}
use Rattle.rx_spec.specs.Bytes.{AreBytes}
use Rattle.rx_spec.specs.Joining.{Answer}
use Rattle.rx_spec.specs.Queries.{IsFit, Query}
use Rattle.rx_base.specs.Search.{mode_of}
use Rattle.rx_image.specs.Pairs.{Pair, reads}
use Rattle.rx_plan.specs.Plan.{plan_of}
use Rattle.rx_regex.specs.Pairs.{joined}
use Rattle.rx_script.specs.Grammar.{Spelled}
use Rattle.rx_wire.specs.declared.order.Order.{Order}
use Rattle.rx_transfer.specs.Words.{newline}
use Rattle.rx_main.specs.Lines.{Reply, error_reply}
use Rattle.rx_main.specs.Check.{reading_reply}
use Rattle.rx_main.specs.Find.{FindAnswers, found_reply}
use Rattle.rx_main.specs.PairImage.{IsPairImageReply}
use Rattle.rx_main.specs.declared.command.Search.{Search}

-- a span that doesn't fit the haystack
abbrev pub span_reply : Reply
span_reply = record { text = codes "span" ++ newline; status = 2 }

-- a match, none, or an error
abbrev pub answer_reply : Answer → Reply
answer_reply (Ok found) = found_reply found []
answer_reply (Err error) = error_reply [] error

-- what is asked of a haystack
abbrev pub asked : Search → List ℕ → Query
asked s haystack = record {
  haystack = haystack;
  start = s.start;
  end = s.end;
  mode = mode_of s.mode;
  earliest = false;
}

-- the span lies in the haystack, or its start is one past its end
abbrev pub fits : Query → Bool
fits q = nat_le q.end (length q.haystack) && nat_le q.start (q.end + 1)

-- what two tables answer together
abbrev pub pair_reply : Pair → Query → Reply
pair_reply pair q = if fits q then answer_reply (joined pair q) else span_reply

-- The first bytes are the image, as many as are named or all that there are, and those after them the haystack.
abbrev pub search_reply : Search → List ℕ → Reply
search_reply s bytes =
    reading_reply (λ (pair : Pair) (size : ℕ). pair_reply pair (asked s (drop s.image_len bytes)))
    (reads (take s.image_len bytes))

abbrev pub SearchReplies : Search → List ℕ → Reply → Type 0
SearchReplies s bytes reply = reply ≡ search_reply s bytes

-- Over an image that `image pair` wrote of a script, `search` replies what `find` replies of these expressions by this
-- plan, where no numbers of rows are asked for: `q` is what both are asked.
abbrev pub SearchFinds : Type 0
SearchFinds = (script : Spelled) (order : Order) (image : Reply) → script.rows ≡ false
    → IsPairImageReply (plan_of script.plan) script.exprs order image
    → (s : Search) (haystack : List ℕ) → s.image_len ≡ length image.text → AreBytes haystack
    → IsFit (asked s haystack) → (reply : Reply) → FindAnswers script (asked s haystack) reply
    → SearchReplies s (image.text ++ haystack) reply
