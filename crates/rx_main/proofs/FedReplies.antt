-- Runs of `feed`, and of the other commands.
use Rattle.rx_spec.proofs.Prelude.{common_steps, ◌≡◌, ℕ, ◌≤◌, List, refl, arith}
use Rattle.rx_base.specs.Outside.{Rose}
use Rattle.rx_base.specs.Search.{mode_of}
use Rattle.rx_transfer.specs.Outside.{Ends}
use Rattle.rx_feed.specs.Run.{FeedAnswers}
use Rattle.rx_main.specs.Commands.{Says}
use Rattle.rx_main.specs.Replies.{Replies}
use Rattle.rx_main.specs.Run.{Answers, IsNoFeed}
use Rattle.rx_main.specs.declared.command.Command.{Command}
use Rattle.rx_main.specs.declared.command.Feed.{Feed}
use Rattle.rx_main.proofs.CommandWords.{spelled_once}

-- the answer of `feed` is a reply
pub fed_answers : {words : List (List ℕ)} {f : Feed} {ends : Ends} {status : ℕ} → Says words (Command.Feed f)
    → FeedAnswers f.form (mode_of f.mode) f.image_len ends status → Answers words ends status
fed_answers {words} {f} {ends} {status} says fed = record {
  reply = record { text = fed.text; status = status };
  took = record {
    bytes = fed.bytes;
    ended = fed.ended;
    taken = fed.takes.taken;
    at_end = fed.takes.at_end;
    replies = Replies.Answered (Command.Feed f) says fed.replies;
  };
  written = fed.written;
  told = refl;
}

-- generating patterns isn't `feed`
gen_or_feed : (count : ℕ) (f : Feed) → Command.Gen count ≡ Command.Feed f → ⊥
gen_or_feed count f e = cc

pub gen_no_feed : {words : List (List ℕ)} {count : ℕ} → Says words (Command.Gen count) → IsNoFeed words
gen_no_feed {words} {count} says f fed = grind (arith, common_steps, gen_or_feed, spelled_once)

-- a count that rose from a later value on
pub rose_from : (a b c : ℕ) → a ≤ b → Rose b c → Rose a c
rose_from a b c h r = (omega (arith, h, r.0), omega (arith, h, r.0, r.1))
