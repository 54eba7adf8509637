-- The matches of generated patterns: what an iterator gives of them.
use Rattle.rx_spec.proofs.Prelude.{common_steps, flat_map-append, ◌≡◌, ℕ, zero, suc, ◌+◌, ◌*◌, ◌≤◌, false, List, []}
use Rattle.rx_spec.proofs.Prelude.{◌∷◌, ◌++◌, length, map, sum_by, None, refl, ap, ◌∙◌, append-nil, arith, Ok, Err}
use Rattle.rx_spec.proofs.Prelude.{flat_map, range_with_len, length-append, length-map, length-range_with_len}
use Rattle.rx_spec.proofs.Prelude.{FoundMatches, iterate, Anchored, Match, MatchError, Query}
use Rattle.rx_plan.specs.Plans.{outcome}
use Rattle.std.proofs.Common.{lit≤}
use Rattle.std.proofs.lemmas.List.Concat.{length-flat_map}
use Rattle.std.proofs.lemmas.List.Sums.{sum_by-le}
use Rattle.rx_pair.specs.Matches.{items}
use Rattle.rx_plan.specs.Plan.{plan_of, usual}
use Rattle.rx_main.specs.Gen.{gen_haystack, gen_matches, gen_patterns, gen_piece, gen_query}
use Rattle.rx_main.proofs.Matches.{Item, as_item, ended, found_all, found_before, items_are}
use Rattle.rx_main.proofs.UsualPlan.{found_by, iterated_usual, searched_few}

-- ---- the haystack

numbers_more : (n a : ℕ) → range_with_len a (suc n) ≡ range_with_len a n ++ (a + n) ∷ []
numbers_more zero a = let e : a ≡ a + 0 = omega arith in ap (λ x. x ∷ []) e
numbers_more (suc n) a =
    let e : a + 1 + n ≡ a + suc n = omega arith in
    ap (λ l. a ∷ l) (numbers_more n (a + 1) ∙ ap (λ x. range_with_len (a + 1) n ++ x ∷ []) e)

-- one more piece
pub haystack_more : (count n : ℕ)
    → flat_map (gen_piece count) (range_with_len 0 (n + 1))
    ≡ flat_map (gen_piece count) (range_with_len 0 n) ++ gen_piece count n
haystack_more count n =
    let one : flat_map (gen_piece count) (n ∷ []) ≡ gen_piece count n = append-nil (gen_piece count n) in
    let last : 0 + n ≡ n = omega arith in
    let next : n + 1 ≡ suc n = omega arith in
    ap (flat_map (gen_piece count))
    (ap (range_with_len 0) next ∙ numbers_more n 0 ∙ ap (λ x. range_with_len 0 n ++ x ∷ []) last)
    ∙ flat_map-append (gen_piece count) (range_with_len 0 n) (n ∷ [])
    ∙ ap (λ l. flat_map (gen_piece count) (range_with_len 0 n) ++ l) one

-- each has seven bytes
pub haystack_short : (count : ℕ) → count ≤ 1000 → length (gen_haystack count) ≤ 140000
haystack_short count few =
    let places = range_with_len 0 (20 * count) in
    let pieces = length-flat_map (gen_piece count) places in
    let sum : sum_by (λ j. length (gen_piece count j)) places ≤ length places * 7 =
    sum_by-le (λ j. length (gen_piece count j)) 7 places (λ k d low. lit≤ tt) in
    let many = length-range_with_len 0 (20 * count) in
    omega arith

-- ---- the matches

-- what the tables of the patterns give
abbrev pub gen_items : ℕ → List Item
gen_items count = items (iterate (outcome (plan_of usual) (gen_patterns count)) (gen_query count))

-- the matches that there are
abbrev searched : ℕ → FoundMatches
searched count = iterate (found_by (gen_patterns count)) (gen_query count)

given : (count : ℕ) (all : List Item) → all ≡ gen_items count → all ≡ items (searched count)
given count all e = e ∙ ap items (iterated_usual (gen_patterns count) (gen_query count) refl)

-- what they give of a query for the haystack
pub gen_given : (count : ℕ) {bytes : List ℕ} {q : Query}
    → q ≡ record { haystack = bytes; start = 0; end = length bytes; mode = Anchored.No; earliest = false }
    → bytes ≡ gen_haystack count
    → items (iterate (outcome (plan_of usual) (gen_patterns count)) q) ≡ gen_items count
gen_given count {bytes} {q} asked made = grind (arith, common_steps)

-- if all that was given are these, there are no others
pub gen_all : (count : ℕ) (told : List Match) → map Ok told ≡ gen_items count → gen_matches count ≡ told
gen_all count told e = (found_all told (searched count) (given count (map Ok told) e)).0

-- no error is given
pub gen_no_error : (count : ℕ) (told : List Match) (last : MatchError) (more : List Item)
    → map Ok told ++ Err last ∷ more ≡ gen_items count → ⊥
gen_no_error count told last more e =
    let none = (searched_few (gen_patterns count) (gen_query count)).no_error in
    let some = (found_before told last more (searched count) (given count (map Ok told ++ Err last ∷ more) e)).1 in
    cc

-- and there are so few
pub gen_few : (count : ℕ) (told : List Match) (more : List Item) → map Ok told ++ more ≡ gen_items count
    → length told ≤ length (gen_haystack count) + 2
gen_few count told more e =
    let all = searched count in
    let few = searched_few (gen_patterns count) (gen_query count) in
    let at_most = few.few in
    let none = few.no_error in
    let same : map Ok told ++ more ≡ map Ok all.matches ++ ended None =
    given count (map Ok told ++ more) e ∙ items_are all ∙ ap (λ o. map Ok all.matches ++ ended o) none in
    let lengths = ap length same in
    let left = length-append (map Ok told) more in
    let right = length-append (map Ok all.matches) (ended None) in
    let told_many = length-map told as_item in
    let all_many = length-map all.matches as_item in
    omega arith
