-- What the command `equal` replies to its bytes: the images of two tables, one after the other.
use Rattle.std.specs.Prelude.{ℕ, ◌≡◌, ◌≢◌, ◌<◌, ◌≤◌, max, Result, Ok, Err, List, length, take, drop, AllPairs, Contains}
use Rattle.rx_spec.specs.Machines.{IsWord}
use Rattle.rx_spec.specs.Tables.{Table}
use Rattle.rx_base.specs.StartConfig.{StartConfig}
use Rattle.rx_equal.specs.Evidence.{IsReached, RowPair}
use Rattle.rx_equal.specs.Partings.{IsPlaceOf, NothingParts, Parts}
use Rattle.rx_feed.specs.Replies.{table_read}
use Rattle.rx_wire.specs.Kinds.{Kind}
use Rattle.rx_main.specs.Check.{failed_test_reply}
use Rattle.rx_main.specs.EqualLines.{differ_reply, equal_reply, wide_reply}
use Rattle.rx_main.specs.Lines.{Reply}
use Rattle.rx_main.specs.declared.command.Equal.{Equal}

-- ---- two tables

-- the most patterns of a table that is compared
abbrev pub most_compared : ℕ
most_compared = 65536

abbrev pub most_patterns_of : Table → Table → ℕ
most_patterns_of t u = max t.pattern_len u.pattern_len

-- pairs of rows that are those reached, each once
pub record AreThoseReached (t u : Table) (pairs : List RowPair) : Type 0 where
  pub once : AllPairs (λ p q. p ≢ q) pairs
  pub reached : (p : RowPair) → Contains pairs p → IsReached t u p
  pub all : (p : RowPair) → IsReached t u p → Contains pairs p

-- nothing parts the tables, and so many pairs are reached
pub record IsEqualReply (t u : Table) (reply : Reply) : Type 0 where
  pub nothing : NothingParts t u
  pub pairs : List RowPair
  pub reached : AreThoseReached t u pairs
  pub told : reply ≡ equal_reply (length pairs)

-- some place and word that part the tables are told
pub record IsDifferReply (t u : Table) (reply : Reply) : Type 0 where
  pub place : StartConfig
  pub word : List ℕ
  pub is_place : IsPlaceOf t u place
  pub is_word : IsWord word
  pub parts : Parts t u place word
  pub told : reply ≡ differ_reply place word

pub data CompareReplies (t u : Table) (reply : Reply) : Type 0 where
  Wide : most_compared < most_patterns_of t u → reply ≡ wide_reply → CompareReplies t u reply
  Same : most_patterns_of t u ≤ most_compared → IsEqualReply t u reply → CompareReplies t u reply
  Differ : most_patterns_of t u ≤ most_compared → IsDifferReply t u reply → CompareReplies t u reply

-- ---- two images

-- the first test that an image fails, of the first image before the second; or what the tables are told
abbrev pub ImagesReply : Result Table Kind → Result Table Kind → Reply → Type 0
ImagesReply (Err kind) other reply = reply ≡ failed_test_reply kind
ImagesReply (Ok t) (Err kind) reply = reply ≡ failed_test_reply kind
ImagesReply (Ok t) (Ok u) reply = CompareReplies t u reply

-- both are accepted, and the reply tells what parts their tables
pub record TellsPartingOf (t u : Result Table Kind) (reply : Reply) : Type 0 where
  pub table : Table
  pub other : Table
  pub accepted : t ≡ Ok table
  pub other_accepted : u ≡ Ok other
  pub tells : IsDifferReply table other reply

-- The first bytes are the first image, as many as are named or all that there are, and those after them the second.
abbrev pub EqualReplies : Equal → List ℕ → Reply → Type 0
EqualReplies e bytes reply =
    ImagesReply (table_read e.form (take e.image_len bytes)) (table_read e.other (drop e.image_len bytes)) reply

abbrev pub TellsParting : Equal → List ℕ → Reply → Type 0
TellsParting e bytes reply =
    TellsPartingOf (table_read e.form (take e.image_len bytes)) (table_read e.other (drop e.image_len bytes)) reply

-- ---- the law

-- of two tables one of both is told, and the number of pairs is one alone
abbrev pub EqualOrDiffer : Type 0
EqualOrDiffer = (t u : Table) (reply : Reply) → IsEqualReply t u reply
    → ((other : Reply) → IsDifferReply t u other → ⊥) × ((other : Reply) → IsEqualReply t u other → reply ≡ other)
