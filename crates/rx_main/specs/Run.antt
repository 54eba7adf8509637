-- What a run of the program has read and written.
use Rattle.std.specs.Prelude.{◌≡◌, ℕ, Bool, true, List, Option}
use Rattle.std.specs.Io.KnownBytes.{Consumes, IsAtEnd, Appends, Keeps}
use Rattle.rx_base.specs.Search.{mode_of}
use Rattle.rx_transfer.specs.Outside.{AppendsFront, Ends}
use Rattle.rx_feed.specs.Run.{FeedBreaks, FeedCut, FeedStarved}
use Rattle.rx_main.specs.Commands.{Says}
use Rattle.rx_main.specs.Lines.{Reply}
use Rattle.rx_main.specs.Replies.{Replies}
use Rattle.rx_main.specs.declared.command.Command.{Command}
use Rattle.rx_main.specs.declared.command.Feed.{Feed}
use Rattle.rx_main.specs.declared.program.Output.{Output}

-- Bytes were taken from the source, to its end or not, and this is the reply to them.
pub record Took (words : List (List ℕ)) (before after : Option (List ℕ)) (reply : Reply) : Type 0 where
  pub bytes : List ℕ
  pub ended : Bool
  pub taken : Consumes before after bytes
  pub at_end : ended ≡ true → IsAtEnd after
  pub replies : Replies words bytes ended reply

-- The text of a reply was added to what was written.
pub record Answers (words : List (List ℕ)) (ends : Ends) (status : ℕ) : Type 0 where
  pub reply : Reply
  pub took : Took words ends.left_before ends.left_after reply
  pub written : Appends ends.written_before ends.written_after reply.text
  pub told : status ≡ reply.status

-- ---- runs without an answer

-- The words aren't `feed`, which writes while it reads.
abbrev pub IsNoFeed : List (List ℕ) → Type 0
IsNoFeed words = (f : Feed) → Says words (Command.Feed f) → ⊥

-- The source failed. Nothing was written, but by `feed` the lines of what the text tells that was taken.
pub data IsCut (words : List (List ℕ)) (ends : Ends) : Type 0 where
  Unread : IsNoFeed words → Keeps ends.written_before ends.written_after → IsCut words ends
  Fed : (f : Feed) → Says words (Command.Feed f) → FeedCut f.form (mode_of f.mode) f.image_len ends
      → IsCut words ends

-- The sink failed. A front of the text of a reply was added to what was written, and not all of it.
pub data Breaks (words : List (List ℕ)) (ends : Ends) : Type 0 where
  InReply : IsNoFeed words → (reply : Reply) → Took words ends.left_before ends.left_after reply
      → AppendsFront ends.written_before ends.written_after reply.text → Breaks words ends
  Fed : (f : Feed) → Says words (Command.Feed f) → FeedBreaks f.form (mode_of f.mode) f.image_len ends
      → Breaks words ends

-- Memory ran out. Nothing was written, and `feed` took no byte of the text.
pub data IsStarved (words : List (List ℕ)) (ends : Ends) : Type 0 where
  Unread : IsNoFeed words → Keeps ends.written_before ends.written_after → IsStarved words ends
  Fed : (f : Feed) → Says words (Command.Feed f) → FeedStarved f.image_len ends → IsStarved words ends

-- ---- before anything is written

-- a reply, or a text that is still to be read
abbrev pub IsOutput : List (List ℕ) → Option (List ℕ) → Option (List ℕ) → Output → Type 0
IsOutput words before after (Output.Reply reply) = IsNoFeed words × Took words before after reply
IsOutput words before after (Output.Feed f) = Says words (Command.Feed f) × (after ≡ before)
