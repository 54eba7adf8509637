-- The matches one after another: they rise, and no bound cuts anything off.
use Rattle.rx_spec.proofs.Prelude.{common_steps, ◌≡◌, ℕ, zero, suc, ◌+◌, ◌-◌, ◌<◌, ◌≤◌, true, false, Option, Some, None}
use Rattle.rx_spec.proofs.Prelude.{List, [], refl, ap, sym, ◌∙◌, subst, arith, Ok, Err, All, AllPairs, lt-ltb, eq-eqb}
use Rattle.rx_spec.proofs.Prelude.{and_from, cases_eq, All-weaker, Query, Match, is_done, Answer, is_repeat}
use Rattle.rx_spec.proofs.Prelude.{unless_repeat, FoundMatches, and_then, iterate_from, iterate}
use Rattle.std.proofs.lemmas.List.Kept.{AllPairs-cons}
use Rattle.rx_lemmas.proofs.Firsts.{by_test}
use Rattle.rx_lemmas.proofs.FoundLaws.{and_then-same}

-- a match that lies in a query's span
pub record LiesIn (q : Query) (m : Match) : Type 0 where
  pub from : q.start ≤ m.start
  pub ordered : m.start ≤ m.end
  pub upto : m.end ≤ q.end

-- A search that finds nothing where the span has nothing more to give, and else only what lies in the span.
pub record IsOrderly (search : Query → Answer) : Type 0 where
  pub none_when_done : (q : Query) → is_done q ≡ true → search q ≡ Ok None
  pub lies : (q : Query) (m : Match) → search q ≡ Ok (Some m) → LiesIn q m

-- the answer that is told next
abbrev pub told_next : (Query → Answer) → Query → Option ℕ → Answer
told_next search q last_end = unless_repeat search q last_end (search q)

-- as many matches as the span may have, and once more
abbrev pub match_limit : Query → ℕ
match_limit q = q.end + 2 - q.start

abbrev pub from_end : Query → Match → Query
from_end q found = record q { start = found.end }

module _ {search : Query → Answer} (orderly : IsOrderly search) where
  -- where it lies, and that it ends after the last one, which ended where the query begins
  record IsNext (q : Query) (last_end : Option ℕ) (m : Match) : Type 0 where
    lies : LiesIn q m
    later : last_end ≡ Some q.start → q.start < m.end

  not_repeated : (q : Query) (last_end : Option ℕ) (m : Match) → LiesIn q m → is_repeat last_end m ≡ false
      → IsNext q last_end m
  not_repeated q None m lies e = record { lies = lies; later = λ same. absurd (cc) }
  not_repeated q (Some last) m lies e = grind (arith, common_steps, cases_eq, and_from, eq-eqb)

  next_is : (q : Query) (last_end : Option ℕ) (m : Match) → told_next search q last_end ≡ Ok (Some m)
      → IsNext q last_end m
  next_is q last_end m e = grind (arith, common_steps, by_test, not_repeated)

  -- ---- no bound cuts anything off

  turn : (n : ℕ) (q : Query) (last_end : Option ℕ)
      → iterate_from search (suc n) q last_end
      ≡ and_then (told_next search q last_end) (λ found. iterate_from search n (from_end q found) (Some found.end))
  unfolding iterate_from
  turn n q last_end = refl

  no_turn : (q : Query) (last_end : Option ℕ)
      → iterate_from search 0 q last_end ≡ record { matches = []; error = None }
  unfolding iterate_from
  no_turn q last_end = refl

  done_turn : (n : ℕ) (q : Query) (last_end : Option ℕ) → q.end < q.start
      → iterate_from search (suc n) q last_end ≡ record { matches = []; error = None }
  done_turn n q last_end past = grind (arith, common_steps, lt-ltb, turn)

  turn_alike : (n k : ℕ) (q : Query) (last_end : Option ℕ)
      → ((m : Match) → IsNext q last_end m
      → iterate_from search n (from_end q m) (Some m.end) ≡ iterate_from search k (from_end q m) (Some m.end))
      → iterate_from search (suc n) q last_end ≡ iterate_from search (suc k) q last_end
  turn_alike n k q last_end same = grind (arith, common_steps, turn, and_then-same, next_is)

  -- where the last match ended at the query's start, the limit is one lower
  one_more_after : (n : ℕ) (q : Query) → q.end + 1 - q.start ≤ n
      → iterate_from search n q (Some q.start) ≡ iterate_from search (suc n) q (Some q.start)
  one_more_after zero q h = no_turn q (Some q.start) ∙ sym (done_turn 0 q (Some q.start) (omega arith))
  one_more_after (suc n) q h =
      turn_alike n (suc n) q (Some q.start)
      (λ m is.
      let later = is.later refl in
      let high = is.lies.upto in
      one_more_after n (from_end q m) (omega arith))

  one_more : (n : ℕ) (q : Query) (last_end : Option ℕ) → match_limit q ≤ n
      → iterate_from search n q last_end ≡ iterate_from search (suc n) q last_end
  one_more zero q last_end h = no_turn q last_end ∙ sym (done_turn 0 q last_end (omega arith))
  one_more (suc n) q last_end h =
      turn_alike n (suc n) q last_end
      (λ m is.
      let low = is.lies.from in
      one_more_after n (from_end q m) (omega arith))

  many_more : (more : ℕ) (q : Query) (last_end : Option ℕ)
      → iterate_from search (match_limit q) q last_end ≡ iterate_from search (match_limit q + more) q last_end
  many_more zero q last_end = grind (arith, common_steps)
  many_more (suc more) q last_end =
      let e : suc (match_limit q + more) ≡ match_limit q + suc more = omega arith in
      many_more more q last_end ∙ one_more (match_limit q + more) q last_end (omega arith)
      ∙ ap (λ n. iterate_from search n q last_end) e

  -- any bound from the limit on gives the same
  pub matches_uncut : (n : ℕ) (q : Query) (last_end : Option ℕ) → match_limit q ≤ n
      → iterate_from search n q last_end ≡ iterate_from search (match_limit q) q last_end
  matches_uncut n q last_end h =
      let e : match_limit q + (n - match_limit q) ≡ n = omega arith in
      sym (many_more (n - match_limit q) q last_end ∙ ap (λ k. iterate_from search k q last_end) e)

  -- so the matches are the next one, and those from its end on
  pub matches_again : (q : Query) (last_end : Option ℕ)
      → iterate_from search (match_limit q) q last_end
      ≡ and_then (told_next search q last_end)
      (λ found. iterate_from search (match_limit (from_end q found)) (from_end q found) (Some found.end))
  matches_again q last_end = grind (arith, common_steps, one_more, turn, and_then-same, next_is, matches_uncut)

  -- ---- the matches lie in the span, and each is past the ones before it

  abbrev pub IsPast : Match → Match → Type 0
  IsPast x y = (x.end ≤ y.start) × (x.end < y.end)

  record AreMatches (q : Query) (last_end : Option ℕ) (ms : List Match) : Type 0 where
    each : All (IsNext q last_end) ms
    rising : AllPairs IsPast ms

  matches_are : (n : ℕ) (q : Query) (last_end : Option ℕ)
      → AreMatches q last_end (iterate_from search n q last_end).matches
  matches_are zero q last_end = grind (arith, common_steps, no_turn)
  matches_are (suc n) q last_end =
      subst (λ (found : FoundMatches). AreMatches q last_end found.matches) (sym (turn n q last_end))
      (by_answer (told_next search q last_end) refl (λ m. matches_are n (from_end q m) (Some m.end)))
    where
      after : (m y : Match) → IsNext q last_end m → IsNext (from_end q m) (Some m.end) y → IsNext q last_end y
      after m y is next = grind (arith, common_steps)

      by_answer : (answer : Answer) → told_next search q last_end ≡ answer
          → ((m : Match) → AreMatches (from_end q m) (Some m.end)
          (iterate_from search n (from_end q m) (Some m.end)).matches)
          → AreMatches q last_end
          (and_then answer (λ found. iterate_from search n (from_end q found) (Some found.end))).matches
      by_answer (Ok None) e rest = grind (arith, common_steps)
      by_answer (Err error) e rest = grind (arith, common_steps)
      by_answer (Ok (Some m)) e rest =
          let is = next_is q last_end m e in
          let others = (iterate_from search n (from_end q m) (Some m.end)).matches in
          let next = rest m in
          record {
            each = grind (arith, common_steps);
            rising =
                AllPairs-cons IsPast m others
                (All-weaker (IsNext (from_end q m) (Some m.end)) (IsPast m) (λ y h. (h.lies.from, h.later refl)) others
                next.each)
                next.rising;
          }

  pub matches_lie : (q : Query) → All (LiesIn q) (iterate search q).matches
  matches_lie q =
      All-weaker (IsNext q None) (LiesIn q) (λ m h. h.lies) (iterate search q).matches
      (matches_are (match_limit q) q None).each

  pub matches_rise : (q : Query) → AllPairs IsPast (iterate search q).matches
  matches_rise q = (matches_are (match_limit q) q None).rising
