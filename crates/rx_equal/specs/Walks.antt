-- What a walk over pairs keeps, and what it answers.
use Rattle.std.specs.Prelude.{ℕ, ◌≡◌, ◌≢◌, ◌<◌, ◌≤◌, ◌+◌, Option, Some, None, Bool, true, false, ◌++◌, List, []}
use Rattle.std.specs.Prelude.{◌∷◌, ◌⊎◌, length, map, slice_get, AllPairs, Contains}
use Rattle.rx_spec.specs.Machines.{IsWord, run}
use Rattle.rx_spec.specs.Tables.{Table}
use Rattle.rx_base.specs.StartConfig.{StartConfig}
use Rattle.rx_base.specs.Unit.{unit_number}
use Rattle.rx_equal.specs.declared.evidence.Link.{Link}
use Rattle.rx_equal.specs.declared.evidence.Parting.{Parting}
use Rattle.rx_equal.specs.declared.walk.Verdict.{Verdict}
use Rattle.rx_equal.specs.declared.walk.Walk.{Walk}
use Rattle.rx_equal.specs.Pairs.{AreApart, AreKept, pairs_of}
use Rattle.rx_spec.specs.Queries.{Anchored}
use Rattle.rx_spec.specs.declared.Unit.{Unit}
use Rattle.rx_equal.specs.Places.{Meet, MeetMode, MeetAll, HaveNexts}
use Rattle.rx_equal.specs.Partings.{answer_at, IsPlaceOf, Parts, NothingParts}
use Rattle.rx_equal.specs.Evidence.{RowPair, start_pair, next_pair, next_of, pairs_from, HaveEqualLabels, AreEvidence}
use Rattle.rx_equal.specs.Evidence.{NameEachOnce, AreReached}

-- a link stands for the pair at its own place: the one at a place of two tables, or a successor of an earlier one
abbrev pub Follows : Table → Table → List RowPair → ℕ → Link → Type 0
Follows t u pairs i (Link.Start place) = IsPlaceOf t u place × (start_pair t u place ≡ slice_get pairs i)
Follows t u pairs i (Link.Next from unit) =
    (from < i) × (unit_number unit < 257) × (next_of t u (slice_get pairs from) (unit_number unit) ≡ slice_get pairs i)

-- links and their pairs, each once
pub record IsWalk (t u : Table) (links : List Link) (pairs : List RowPair) : Type 0 where
  pub named : pairs_from t u [] links ≡ Some pairs
  pub count : length links ≡ length pairs
  pub follows : (i : ℕ) (link : Link) → slice_get links i ≡ Some link → Follows t u pairs i link
  pub once : AllPairs (λ p q. p ≢ q) pairs

-- a word of at most so many units leads to a pair
pub record IsReachedBy (t u : Table) (limit : ℕ) (p : RowPair) : Type 0 where
  pub place : StartConfig
  pub is_place : IsPlaceOf t u place
  pub start : RowPair
  pub begins : start_pair t u place ≡ Some start
  pub word : List ℕ
  pub is_word : IsWord word
  pub leads : run (next_pair t u) start word ≡ p
  pub short : length word ≤ limit

pub record IsEqual (t u : Table) (links : List Link) : Type 0 where
  pub nothing : NothingParts t u
  pub evidence : AreEvidence t u links
  pub once : NameEachOnce t u links

pub record IsApart (t u : Table) (p : Parting) : Type 0 where
  pub is_place : IsPlaceOf t u p.place
  pub is_word : IsWord (map unit_number p.word)
  pub parts : Parts t u p.place (map unit_number p.word)
  pub short : AreReached t u (length p.word)
  -- no word that parts them is shorter
  pub least : (place : StartConfig) (word : List ℕ) → IsPlaceOf t u place → IsWord word → Parts t u place word
      → length p.word ≤ length word

abbrev pub IsVerdict : Table → Table → Verdict → Type 0
IsVerdict t u (Verdict.Equal links) = IsEqual t u links
IsVerdict t u (Verdict.Differ p) = IsApart t u p

-- ---- what the walk's own calls keep

-- the links and pairs of a walk as they are kept
pub record AreWalked (t : Table) (ids : List ℕ) (u : Table) (others : List ℕ) (w : Walk) : Type 0 where
  pub kept : AreKept ids others w.pairs
  pub walk : IsWalk t u w.links (pairs_of ids others w.pairs)

-- a link may be added: its place is one of two tables, its unit is one
abbrev pub IsLink : Table → Table → Link → Type 0
IsLink t u (Link.Start place) = IsPlaceOf t u place
IsLink t u (Link.Next from unit) = unit_number unit < 257

-- a bound of the units that lead to the pairs of links: it rises from each pair to those that follow from it
abbrev pub AreLevels : List Link → (ℕ → ℕ) → Type 0
AreLevels links level =
    (i from : ℕ) (unit : Unit) → slice_get links i ≡ Some (Link.Next from unit) → level from < level i

-- a place and a word by which a pair and then a unit are reached
pub record IsPathTo (t u : Table) (links : List Link) (pairs : List RowPair) (at unit : ℕ) (p : Parting)
    : Type 0 where
  pub is_place : IsPlaceOf t u p.place
  pub is_word : IsWord (map unit_number p.word)
  pub start : RowPair
  pub begins : start_pair t u p.place ≡ Some start
  pub leads : next_of t u (slice_get pairs at) unit ≡ Some (run (next_pair t u) start (map unit_number p.word))
  pub short : (level : ℕ → ℕ) → AreLevels links level → length p.word ≤ level at + 1

-- earlier pairs stay where they are
pub record Extends (before after : List RowPair) : Type 0 where
  pub more : List RowPair
  pub all : after ≡ before ++ more

abbrev pub AreLabelled : Table → Table → List RowPair → Type 0
AreLabelled t u pairs = (p : RowPair) → Contains pairs p → HaveEqualLabels t u p

-- a link is one of a place, or leads on from the link at a number
abbrev pub IsFrom : Option ℕ → Link → Type 0
IsFrom None (Link.Start place) = Prim.Unit {0}
IsFrom (Some at) (Link.Next from unit) = from ≡ at
IsFrom source link = ⊥

-- links are added, all from one source
pub record ExtendsBy (source : Option ℕ) (before after : List Link) : Type 0 where
  pub longer : length before ≤ length after
  pub each : (i : ℕ) (link : Link) → slice_get after i ≡ Some link
      → (slice_get before i ≡ Some link) ⊎ ((length before ≤ i) × IsFrom source link)

-- a link is added or not
abbrev pub AddsLink : List Link → Link → Bool → List Link → Type 0
AddsLink before link true after = after ≡ before ++ link ∷ []
AddsLink before link false after = after ≡ before

-- a walk went on from one source
pub record WentOn (t : Table) (ids : List ℕ) (u : Table) (others : List ℕ) (source : Option ℕ) (before after : Walk)
    : Type 0 where
  pub walked : AreWalked t ids u others after
  pub extends : Extends (pairs_of ids others before.pairs) (pairs_of ids others after.pairs)
  pub links : ExtendsBy source before.links after.links

-- a place was looked at: pairs take care of it, or the answers can't be alike
abbrev pub LookedAt : Table → Table → StartConfig → List RowPair → Bool → Type 0
LookedAt t u place pairs true = AreLabelled t u pairs × Meet t u pairs place
LookedAt t u place pairs false = IsPlaceOf t u place × AreApart (answer_at t place) (answer_at u place)

abbrev pub LookedAtMode : Table → Table → Anchored → List RowPair → Option StartConfig → Type 0
LookedAtMode t u mode pairs None = AreLabelled t u pairs × MeetMode t u pairs mode
LookedAtMode t u mode pairs (Some place) = IsPlaceOf t u place × AreApart (answer_at t place) (answer_at u place)

abbrev pub LookedAtAll : Table → Table → List RowPair → Option StartConfig → Type 0
LookedAtAll t u pairs None = AreLabelled t u pairs × MeetAll t u pairs
LookedAtAll t u pairs (Some place) = IsPlaceOf t u place × AreApart (answer_at t place) (answer_at u place)

-- a successor was looked at: it is among the pairs, or its labels differ
abbrev pub Stepped : Table → Table → RowPair → ℕ → List RowPair → Bool → Type 0
Stepped t u p unit pairs true = AreLabelled t u pairs × Contains pairs (next_pair t u p unit)
Stepped t u p unit pairs false = HaveEqualLabels t u (next_pair t u p unit) → ⊥

abbrev pub SteppedAll : Table → Table → RowPair → List RowPair → Option Unit → Type 0
SteppedAll t u p pairs None = AreLabelled t u pairs × HaveNexts t u pairs p
SteppedAll t u p pairs (Some unit) =
    (unit_number unit < 257) × (HaveEqualLabels t u (next_pair t u p (unit_number unit)) → ⊥)
