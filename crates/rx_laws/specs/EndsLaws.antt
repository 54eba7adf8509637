-- Laws of the places where matches end: the textbook's table, line by line, and what is true of all.
use Rattle.std.specs.Prelude.{◌≡◌, ℕ, suc, ◌+◌, ◌-◌, ◌<◌, ◌≤◌, ◌↔◌, Bool, true, false, Option, Some, None, List, []}
use Rattle.std.specs.Prelude.{◌∷◌, ◌++◌, length, Contains, All}
use Rattle.std.specs.List.{flat_map}
use Rattle.rx_spec.specs.Bytes.{contains}
use Rattle.rx_spec.specs.Looks.{Reading, before, after, holds, holds_at}
use Rattle.rx_spec.specs.Expressions.{Expression, min_len, mirror, IsLoopSafe}
use Rattle.rx_spec.specs.Ends.{ends}
use Rattle.rx_spec.specs.Queries.{reading}
use Rattle.rx_spec.specs.Matching.{Reaches}
use Rattle.rx_spec.specs.declared.Direction.{Direction}
use Rattle.rx_spec.specs.declared.Look.{Look}

-- the empty expression matches where it stands
abbrev pub EndsOfEmpty : Type 0
EndsOfEmpty = (r : Reading) (i : ℕ) → ends r Expression.Empty i ≡ i ∷ []

-- a class reads a byte that it holds, and no other, and none where there is none
abbrev pub EndsOfByteInClass : Type 0
EndsOfByteInClass = (r : Reading) (set i byte : ℕ) → after r.units i ≡ Some byte → contains set byte ≡ true
    → ends r (Expression.Class set) i ≡ (i + 1) ∷ []

abbrev pub EndsOfByteOutsideClass : Type 0
EndsOfByteOutsideClass = (r : Reading) (set i byte : ℕ) → after r.units i ≡ Some byte → contains set byte ≡ false
    → ends r (Expression.Class set) i ≡ []

abbrev pub EndsOfClassPastLast : Type 0
EndsOfClassPastLast = (r : Reading) (set i : ℕ) → after r.units i ≡ None → ends r (Expression.Class set) i ≡ []

-- an assertion matches where it stands, where it holds, and nowhere else
abbrev pub EndsOfAssertionThatHolds : Type 0
EndsOfAssertionThatHolds = (r : Reading) (look : Look) (i : ℕ) → holds_at r look i ≡ true
    → ends r (Expression.Look look) i ≡ i ∷ []

abbrev pub EndsOfAssertionThatFails : Type 0
EndsOfAssertionThatFails = (r : Reading) (look : Look) (i : ℕ) → holds_at r look i ≡ false
    → ends r (Expression.Look look) i ≡ []

-- for each end of the first in order, the ends of the second from there
abbrev pub EndsOfConcat : Type 0
EndsOfConcat = (r : Reading) (a b : Expression) (i : ℕ)
    → ends r (Expression.Concat a b) i ≡ flat_map (λ j. ends r b j) (ends r a i)

-- the ends of the first, then those of the second
abbrev pub EndsOfAlternate : Type 0
EndsOfAlternate = (r : Reading) (a b : Expression) (i : ℕ)
    → ends r (Expression.Alternate a b) i ≡ ends r a i ++ ends r b i

-- one bound less
abbrev pub lowered : Option ℕ → Option ℕ
lowered None = None
lowered (Some most) = Some (most - 1)

-- a repetition with a least number above 0: a round, and from its ends the rest, with both bounds one
-- lower
abbrev pub EndsOfNeededRound : Type 0
EndsOfNeededRound = (r : Reading) (n : ℕ) (most : Option ℕ) (greedy : Bool) (body : Expression) (i : ℕ)
    → ends r (Expression.Repeat (suc n) most greedy body) i
    ≡ flat_map (λ j. ends r (Expression.Repeat n (lowered most) greedy body) j) (ends r body i)

-- no rounds at all
abbrev pub EndsOfNoRounds : Type 0
EndsOfNoRounds = (r : Reading) (greedy : Bool) (body : Expression) (i : ℕ)
    → ends r (Expression.Repeat 0 (Some 0) greedy body) i ≡ i ∷ []

-- what a further round and then the rest give: a greedy repetition prefers it, a lazy one prefers to stop
abbrev pub further_round : Reading → Option ℕ → Bool → Expression → ℕ → List ℕ
further_round r most greedy body i = flat_map (λ j. ends r (Expression.Repeat 0 most greedy body) j) (ends r body i)

abbrev pub EndsOfGreedyRound : Type 0
EndsOfGreedyRound = (r : Reading) (n : ℕ) (body : Expression) (i : ℕ)
    → ends r (Expression.Repeat 0 (Some (suc n)) true body) i ≡ further_round r (Some n) true body i ++ (i ∷ [])

abbrev pub EndsOfLazyRound : Type 0
EndsOfLazyRound = (r : Reading) (n : ℕ) (body : Expression) (i : ℕ)
    → ends r (Expression.Repeat 0 (Some (suc n)) false body) i ≡ i ∷ further_round r (Some n) false body i

-- A repetition without an end unfolds to itself: its body reads a byte in each round, so the recursion
-- ends.
abbrev pub EndsOfUnboundedGreedy : Type 0
EndsOfUnboundedGreedy = (r : Reading) (body : Expression) (i : ℕ) → 0 < min_len body
    → ends r (Expression.Repeat 0 None true body) i ≡ further_round r None true body i ++ (i ∷ [])

abbrev pub EndsOfUnboundedLazy : Type 0
EndsOfUnboundedLazy = (r : Reading) (body : Expression) (i : ℕ) → 0 < min_len body
    → ends r (Expression.Repeat 0 None false body) i ≡ i ∷ further_round r None false body i

-- the assertions of a haystack that is read forward, and of one that is read in reverse
abbrev pub AssertionsForward : Type 0
AssertionsForward = (t : ℕ) (haystack : List ℕ) (look : Look) (i : ℕ)
    → holds_at (reading Direction.Forward t haystack) look i ≡ holds look t (before haystack i) (after haystack i)

abbrev pub AssertionsInReverse : Type 0
AssertionsInReverse = (t : ℕ) (haystack : List ℕ) (look : Look) (i : ℕ) → i ≤ length haystack
    → holds_at (reading Direction.Reverse t haystack) look (length haystack - i)
    ≡ holds look t (before haystack i) (after haystack i)

-- every end lies at least the least length past the start, and within what is read
abbrev pub EndsLie : Type 0
EndsLie = (r : Reading) (e : Expression) (i : ℕ) → i ≤ length r.units
    → All (λ j. (i + min_len e ≤ j) × (j ≤ length r.units)) (ends r e i)

-- the ends are the places that the expression matches up to, in the textbook's sense
abbrev pub EndsAreReached : Type 0
EndsAreReached = (r : Reading) (e : Expression) (i j : ℕ) → IsLoopSafe e → i ≤ length r.units
    → Contains (ends r e i) j ↔ Reaches r e i j

-- a mirror mirrored is the expression
abbrev pub MirrorMirrored : Type 0
MirrorMirrored = (e : Expression) → mirror (mirror e) ≡ e

abbrev pub MirrorMinLen : Type 0
MirrorMinLen = (e : Expression) → min_len (mirror e) ≡ min_len e

-- read in reverse, the mirror matches from the end of a match to its start, and nothing else does
abbrev pub MirrorEnds : Type 0
MirrorEnds = (e : Expression) (t : ℕ) (haystack : List ℕ) (i j : ℕ)
    → IsLoopSafe e → i ≤ length haystack → j ≤ length haystack
    → Contains (ends (reading Direction.Forward t haystack) e i) j
    ↔ Contains (ends (reading Direction.Reverse t haystack) (mirror e) (length haystack - j)) (length haystack - i)
