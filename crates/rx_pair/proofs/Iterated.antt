-- What is left of the matches of two tables, by the next of them.
use Rattle.rx_spec.proofs.Prelude.{◌≡◌, Some, None, Option, List, [], ◌∷◌, map, ap, ◌∙◌, All, IfOk, Result, Ok, Err}
use Rattle.rx_spec.proofs.Prelude.{All-append, All-cons, All-map, All-nil, All-weaker, and_then, iterate, Answer, join}
use Rattle.rx_spec.proofs.Prelude.{Query, Match, MatchError, LiesIn, Table}
use Rattle.rx_base.specs.Searcher.{Search}
use Rattle.rx_lemmas.proofs.Iterating as iterating
use Rattle.rx_lemmas.proofs.Iterating.{from_end, matches_again, matches_lie, told_next}
use Rattle.rx_lemmas.proofs.Joining.{join_orderly}
use Rattle.rx_pair.specs.Matches.{items, matches_left}

-- what is left behind a match
abbrev pub behind : Search → Match → Search
behind s found = record { query = from_end s.query found; last_end = Some found.end }

module _ (f r : Table) (s : Search) where
  abbrev left : List (Result Match MatchError)
  left = items (matches_left (join f r) s)

  abbrev told : Answer
  told = told_next (join f r) s.query s.last_end

  -- what is told next, and then the rest
  by_next : (answer : Answer) → told ≡ answer
      → left ≡ items (and_then answer (λ found. matches_left (join f r) (behind s found)))
  by_next answer e =
      ap items (matches_again (join_orderly f r) s.query s.last_end)
      ∙ ap (λ (a : Answer). items (and_then a (λ found. matches_left (join f r) (behind s found)))) e

  pub next_match : (found : Match) → told ≡ Ok (Some found)
      → left ≡ Ok found ∷ items (matches_left (join f r) (behind s found))
  next_match found e = by_next (Ok (Some found)) e

  pub no_match : told ≡ Ok None → left ≡ []
  no_match e = by_next (Ok None) e

  pub ended : (error : MatchError) → told ≡ Err error → left ≡ Err error ∷ []
  ended error e = by_next (Err error) e

-- ---- each match lies in the span

module _ (q : Query) where
  abbrev Lies : Result Match MatchError → Type 0
  Lies item = IfOk item (LiesIn q)

  matches_items : (matches : List Match) → All (iterating.LiesIn q) matches → All Lies (map Ok matches)
  matches_items matches lie =
      All-map Lies Ok matches
      (All-weaker (iterating.LiesIn q) (LiesIn q)
      (λ m h. record { low = h.from; ordered = h.ordered; high = h.upto }) matches lie)

  errors_lie : (error : Option MatchError) (matches : List Match) → All (iterating.LiesIn q) matches
      → All Lies (items (record { matches = matches; error = error }))
  errors_lie None matches lie = All-append Lies (map Ok matches) [] (matches_items matches lie) (All-nil Lies)
  errors_lie (Some error) matches lie =
      All-append Lies (map Ok matches) (Err error ∷ []) (matches_items matches lie)
      (All-cons Lies (Err error) [] tt (All-nil Lies))

  pub items_lie : (f r : Table) → All Lies (items (iterate (join f r) q))
  items_lie f r =
      let found = iterate (join f r) q in
      errors_lie found.error found.matches (matches_lie (join_orderly f r) q)
