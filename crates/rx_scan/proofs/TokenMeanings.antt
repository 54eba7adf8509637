-- The longest of what is told at a place is the longest match there, over a table that tells all matches.
use Rattle.rx_spec.proofs.Prelude.{common_steps, ◌≡◌, ℕ, ◌<◌, ◌≤◌, Option, Some, None, Ok, List, refl, subst, arith}
use Rattle.rx_spec.proofs.Prelude.{⊎_elim, cases_lt, Expression, HalfMatch, Ending, OverlappingMatches, Table}
use Rattle.rx_plan.specs.Plans.{Plan}
use Rattle.rx_meaning.specs.AllMatches.{IsPlaced, MatchesTo, told_at}
use Rattle.rx_meaning.proofs.AllMatches.{all_are_told}
use Rattle.rx_scan.specs.Meanings.{IsLongestMatch}
use Rattle.rx_scan.specs.Tokens.{longest, longest_of}
use Rattle.rx_scan.proofs.LongestMatches.{NotAfter, longest_ends, longest_there, some_longest}

module _ {t : Table} {plan : Plan} {es : List Expression} {text : List ℕ} {p : ℕ} (is : IsPlaced t plan es text p) where
  abbrev found : OverlappingMatches
  found = told_at t text p

  -- an answer that is no error is the longest of a walk that ends
  ended_longest : (m : Option HalfMatch) → longest_of p (told_at t text p) ≡ Ok m
      → ((told_at t text p).ending ≡ Ending.Ended) × (longest p (told_at t text p).items ≡ m)
  ended_longest m e = grind (arith, common_steps)

  pub longest_is_match : (m : HalfMatch) → longest_of p (told_at t text p) ≡ Ok (Some m)
      → IsLongestMatch es plan.line_terminator text p m
  longest_is_match m e =
      let told = ended_longest (Some m) e in
      let above = longest_ends p found.items m told.1 in
      let there = longest_there p found.items m told.1 in
      let first : (k end : ℕ) → MatchesTo es plan.line_terminator text p k end → p < end
      → NotAfter m (record { pattern = k; offset = end })
      = λ k end matches past.
      let one = some_longest p found.items (record { pattern = k; offset = end })
      ((all_are_told t plan es text p is told.0 k end).1 matches) past in
      subst (λ (x : HalfMatch). NotAfter x (record { pattern = k; offset = end }))
      (cc)
      one.2 in
      record {
        above = above;
        matches = (all_are_told t plan es text p is told.0 m.pattern m.offset).0 there;
        longest = λ k end matches.
            ⊎_elim
            (λ (past : p < end). (first k end matches past).longer)
            (λ (low : end ≤ p). omega arith)
            (cases_lt p end);
        lowest = λ k matches. (first k m.offset matches above).lower refl;
      }

  -- where there is none, no pattern has an end past the place
  pub none_matches : longest_of p (told_at t text p) ≡ Ok None → (k end : ℕ)
      → MatchesTo es plan.line_terminator text p k end → end ≤ p
  none_matches e k end matches =
      let told = ended_longest None e in
      ⊎_elim
      (λ (past : p < end). absurd (let one = some_longest p found.items (record { pattern = k; offset = end })
      ((all_are_told t plan es text p is told.0 k end).1 matches) past in
      (cc)))
      (λ (low : end ≤ p). low)
      (cases_lt p end)
