-- Replies of `equal`: at most one fits, but that any parting may be told.
use Rattle.rx_spec.proofs.Prelude.{common_steps, ◌≡◌, ◌⊎◌, inl, inr, List, Result, Ok, Err, refl, sym, ◌∙◌, arith}
use Rattle.rx_spec.proofs.Prelude.{length, Table}
use Rattle.rx_equal.specs.Evidence.{RowPair}
use Rattle.rx_lemmas.proofs.Sublists.{length-within}
use Rattle.rx_wire.specs.Kinds.{Kind}
use Rattle.rx_main.specs.Equal.{AreThoseReached, CompareReplies, ImagesReply, IsDifferReply, IsEqualReply}
use Rattle.rx_main.specs.Equal.{TellsPartingOf}
use Rattle.rx_main.specs.Lines.{Reply}

module _ (t u : Table) where
  -- the pairs that are reached are so many, in whichever order
  as_many : (pairs others : List RowPair) → AreThoseReached t u pairs → AreThoseReached t u others
      → length pairs ≡ length others
  as_many pairs others h k =
      let few = length-within pairs others h.once (λ p in_pairs. k.all p (h.reached p in_pairs)) in
      let many = length-within others pairs k.once (λ p in_others. h.all p (k.reached p in_others)) in
      omega (arith, few, many)

  pub equal_once : (reply other : Reply) → IsEqualReply t u reply → IsEqualReply t u other → reply ≡ other
  equal_once reply other h k = grind (arith, common_steps, as_many)

  -- where nothing parts the tables, no parting is told
  pub not_both : (reply other : Reply) → IsEqualReply t u reply → IsDifferReply t u other → ⊥
  not_both reply other h k = k.parts (h.nothing k.place k.is_place k.word k.is_word)

  compare_once : (reply other : Reply) → CompareReplies t u reply → CompareReplies t u other
      → (reply ≡ other) ⊎ (IsDifferReply t u reply × IsDifferReply t u other)
  compare_once reply other (CompareReplies.Wide wide h) (CompareReplies.Wide also k) = inl (h ∙ sym k)
  compare_once reply other (CompareReplies.Wide wide h) (CompareReplies.Same few k) = absurd (omega (arith, wide, few))
  compare_once reply other (CompareReplies.Wide wide h) (CompareReplies.Differ few k) = grind (arith, common_steps)
  compare_once reply other (CompareReplies.Same few h) (CompareReplies.Wide wide k) = absurd (omega (arith, wide, few))
  compare_once reply other (CompareReplies.Same few h) (CompareReplies.Same also k) = inl (equal_once reply other h k)
  compare_once reply other (CompareReplies.Same few h) (CompareReplies.Differ also k) =
      absurd (not_both reply other h k)
  compare_once reply other (CompareReplies.Differ few h) (CompareReplies.Wide wide k) = grind (arith, common_steps)
  compare_once reply other (CompareReplies.Differ few h) (CompareReplies.Same also k) =
      absurd (not_both other reply k h)
  compare_once reply other (CompareReplies.Differ few h) (CompareReplies.Differ also k) = inr (h, k)

pub images_once : (t u : Result Table Kind) (reply other : Reply) → ImagesReply t u reply → ImagesReply t u other
    → (reply ≡ other) ⊎ (TellsPartingOf t u reply × TellsPartingOf t u other)
images_once (Err kind) u reply other h k = inl (h ∙ sym k)
images_once (Ok t) (Err kind) reply other h k = inl (h ∙ sym k)
images_once (Ok t) (Ok u) reply other h k = by_case (compare_once t u reply other h k)
  where
    tells : (r : Reply) → IsDifferReply t u r → TellsPartingOf (Ok t) (Ok u) r
    tells r differs =
        record { table = t; other = u; accepted = refl; other_accepted = refl; tells = differs }

    by_case : (reply ≡ other) ⊎ (IsDifferReply t u reply × IsDifferReply t u other)
        → (reply ≡ other) ⊎ (TellsPartingOf (Ok t) (Ok u) reply × TellsPartingOf (Ok t) (Ok u) other)
    by_case (inl same) = inl same
    by_case (inr both) = inr (tells reply both.0, tells other both.1)
