-- What was taken from a source, and the reply to it.
use Rattle.rx_spec.proofs.Prelude.{arith, ◌≡◌, ℕ, true, false, List, [], length, Option, common_steps, Consumes}
use Rattle.rx_spec.proofs.Prelude.{IsAtEnd}
use Rattle.rx_main.specs.Commands.{Says}
use Rattle.rx_main.specs.Lines.{Reply, long_reply}
use Rattle.rx_main.specs.Replies.{CommandReplies, Replies}
use Rattle.rx_main.specs.Run.{Took}
use Rattle.rx_main.specs.declared.command.Command.{Command}
use Rattle.rx_main.specs.declared.command.ReadCommand.{ReadCommand}
use Rattle.rx_transfer.proofs.Transfers.{consumes_none}

-- nothing
pub took_nothing : {words : List (List ℕ)} {reply : Reply} (left : Option (List ℕ)) → Replies words [] false reply
    → Took words left left reply
took_nothing left h = grind (arith, common_steps, consumes_none)

-- all there is
pub took_all : {words : List (List ℕ)} {command : Command} (before after : Option (List ℕ)) (bytes : List ℕ)
    (reply : Reply) → Says words command → Consumes before after bytes → IsAtEnd after
    → CommandReplies command bytes true reply → Took words before after reply
took_all {words} {command} before after bytes reply says taken end h = record {
  bytes = bytes;
  ended = true;
  taken = taken;
  at_end = λ e. end;
  replies = Replies.Answered command says h;
}

-- one byte more than is read
pub took_long : {words : List (List ℕ)} {command : ReadCommand} (before after : Option (List ℕ)) (reply : Reply)
    → Says words (Command.Read command)
    → (bytes : List ℕ) × (length bytes ≡ 16777217) × Consumes before after bytes → reply ≡ long_reply
    → Took words before after reply
took_long {words} {command} before after reply says taken e = record {
  bytes = taken.0;
  ended = false;
  taken = taken.2;
  at_end = λ h. absurd (cc);
  replies = Replies.Long command says taken.1 e;
}
