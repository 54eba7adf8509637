-- From what the comparison of two tables answers to the reply of `equal`.
use Rattle.rx_spec.proofs.Prelude.{common_steps, ◌≡◌, ◌+◌, ◌≤◌, Option, Some, None, List, [], ◌∷◌, ◌++◌, length, ap}
use Rattle.rx_spec.proofs.Prelude.{◌∙◌, arith, length-append, same_Some, option_and_then, Table}
use Rattle.rx_equal.specs.Evidence.{RowPair, link_pair, pairs_from}
use Rattle.rx_equal.specs.Walks.{IsEqual}
use Rattle.rx_equal.specs.declared.evidence.Link.{Link}
use Rattle.rx_main.specs.Equal.{CompareReplies, most_compared, most_patterns_of}
use Rattle.rx_main.specs.EqualLines.{equal_reply}
use Rattle.rx_main.specs.Lines.{Reply}

module _ (t u : Table) where
  -- a link more, where it stands for a pair
  by_pair : (earlier pairs : List RowPair) (links : List Link)
      → ((next : List RowPair) → pairs_from t u next links ≡ Some pairs → length pairs ≡ length next + length links)
      → (pair : Option RowPair) → option_and_then (λ p. pairs_from t u (earlier ++ p ∷ []) links) pair ≡ Some pairs
      → length pairs ≡ length earlier + (length links + 1)
  by_pair earlier pairs links go (Some p) e = grind (arith, common_steps, length-append)
  by_pair earlier pairs links go None e = absurd (cc)

  -- links name as many pairs as they are
  as_long : (earlier pairs : List RowPair) (links : List Link) → pairs_from t u earlier links ≡ Some pairs
      → length pairs ≡ length earlier + length links
  as_long earlier pairs [] e = let same = ap length (same_Some earlier pairs e) in omega (arith, same)
  as_long earlier pairs (link ∷ links) e =
      let all = by_pair earlier pairs links (λ next f. as_long next pairs links f) (link_pair t u earlier link) e in
      omega (arith, all)

  pub equal_told : (links : List Link) (reply : Reply) → IsEqual t u links → reply ≡ equal_reply (length links)
      → most_patterns_of t u ≤ most_compared → CompareReplies t u reply
  equal_told links reply is told few =
      let once = is.once in
      let named = as_long [] once.pairs links once.named in
      let many : length links ≡ length once.pairs = omega (arith, named) in
      CompareReplies.Same few (record {
        nothing = is.nothing;
        pairs = once.pairs;
        reached = record { once = once.once; reached = once.reached; all = once.all };
        told = told ∙ ap equal_reply many;
      })
