-- From what reading an image and searching by its tables answer to the reply of `search`.
use Rattle.rx_spec.proofs.Prelude.{arith, ◌≡◌, ◌≢◌, ℕ, ◌+◌, ◌≤◌, List, length, take, drop, Ok, common_steps, and_parts}
use Rattle.rx_spec.proofs.Prelude.{leb-true, le-leb, IsFit, Query}
use Rattle.rx_image.specs.Pairs.{Pair, reads}
use Rattle.rx_regex.specs.Pairs.{joined}
use Rattle.rx_wire.specs.Kinds.{FailsBy, Kind}
use Rattle.rx_main.specs.Check.{failed_test_reply}
use Rattle.rx_main.specs.Lines.{Reply}
use Rattle.rx_main.specs.Search.{SearchReplies, answer_reply, asked, fits, pair_reply, span_reply}
use Rattle.rx_main.specs.declared.command.Search.{Search}
use Rattle.rx_main.proofs.CheckAnswers.{failed_test_answers}

module _ (s : Search) (bytes : List ℕ) (reply : Reply) where
  abbrev accepted : Pair → ℕ → Reply
  accepted pair size = pair_reply pair (asked s (drop s.image_len bytes))

  -- the image is accepted, and what is behind it is searched
  pub searched_reply : {image haystack : List ℕ} {pair : Pair} {size : ℕ} → image ≡ take s.image_len bytes
      → haystack ≡ drop s.image_len bytes → reads image ≡ Ok (pair, size)
      → reply ≡ pair_reply pair (asked s haystack) → SearchReplies s bytes reply
  searched_reply {pair = pair} image_is haystack_is read told = grind (arith, common_steps)

  -- it is refused
  pub refused_reply : {image : List ℕ} (kind : Kind) → image ≡ take s.image_len bytes → FailsBy kind (reads image)
      → kind ≢ Kind.Memory → reply ≡ failed_test_reply kind → SearchReplies s bytes reply
  refused_reply {image} kind image_is fails other told = grind (arith, common_steps, failed_test_answers)

-- a span that fits is searched
pub fit_reply : (pair : Pair) (q : Query) → IsFit q → pair_reply pair q ≡ answer_reply (joined pair q)
fit_reply pair q is = grind (arith, common_steps, le-leb)

-- and one that doesn't fit is told
pub span_told : (pair : Pair) (q : Query) → ((q.end ≤ length q.haystack) × (q.start ≤ q.end + 1) → ⊥)
    → pair_reply pair q ≡ span_reply
span_told pair q out = grind (arith, common_steps, and_parts, leb-true)
