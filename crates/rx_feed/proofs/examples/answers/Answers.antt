use Rattle.rx_spec.proofs.Prelude.{◌≡◌, ℕ, List, [], ◌∷◌, refl, arith, decimal_digit, All-cons, All-nil, decimal, All}
use Rattle.rx_spec.proofs.Prelude.{codes, overlapping_walk, Anchored}
use Rattle.rx_stream.specs.Examples.{found, letter}
use Rattle.rx_stream.specs.declared.event.StreamEvent.{StreamEvent}
use Rattle.rx_feed.specs.Lines.{IsMatch}
use Rattle.rx_feed.specs.Replies.{IsToldLast, StreamReplies}
use Rattle.rx_feed.proofs.examples.answers.Goals as goal

abbrev both : ℕ → List StreamEvent
both offset = found 0 offset ∷ (found 1 offset ∷ [])

both_match : (offset : ℕ) → All IsMatch (both offset)
both_match offset =
    All-cons IsMatch (found 0 offset) (found 1 offset ∷ []) tt
    (All-cons IsMatch (found 1 offset) [] tt (All-nil IsMatch))

digit_0 : decimal 0 ≡ 48 ∷ []
digit_0 = decimal_digit 0 (omega arith)

digit_1 : decimal 1 ≡ 49 ∷ []
digit_1 = decimal_digit 1 (omega arith)

digit_2 : decimal 2 ≡ 50 ∷ []
digit_2 = decimal_digit 2 (omega arith)

pub returns-clause-ended : goal.returns-clause-ended
unfolding overlapping_walk
returns-clause-ended c =
    StreamReplies.Ended refl refl (omega arith) (both_match 1) (rw (digit_0, digit_1, digit_2) refl) refl

quit_last : IsToldLast letter Anchored.No (codes "aaz") (both 1) (StreamEvent.Quit 122 2)
unfolding overlapping_walk
quit_last = record {
  before = codes "aa";
  last = codes "z";
  joined = refl;
  short = omega arith;
  earlier = omega arith;
  later = [];
  tells = refl;
}

pub returns-clause-quit : goal.returns-clause-quit
unfolding overlapping_walk
returns-clause-quit c =
    StreamReplies.Quit (both 1) 122 2 refl (omega arith) (both_match 1) quit_last (rw (digit_0, digit_1, digit_2) refl)
    refl

pub returns-clause-refused : goal.returns-clause-refused
returns-clause-refused c = StreamReplies.Unsupported refl refl (rw digit_0 refl) refl
