-- A walk breadth first: the pairs at a distance come before those farther away, so the first parting is a shortest one.
use Rattle.rx_spec.proofs.Prelude.{common_steps, ℕ, ◌≡◌, ◌+◌, ◌<◌, ◌≤◌, Some, None, Result, Ok, Err, List, [], ◌∷◌}
use Rattle.rx_spec.proofs.Prelude.{◌++◌, length, map, take, get_or, if◌then◌else◌, refl, ap, sym, ◌∙◌, subst, arith}
use Rattle.rx_spec.proofs.Prelude.{⊎_elim, length-append, cases_lt, lt-ltb, le-ltb, take_more, take_all, length-take-le}
use Rattle.rx_spec.proofs.Prelude.{Contains-get_or, same_Some, slice_get_within, Contains, slice_get, nat_lt, IsWord}
use Rattle.rx_spec.proofs.Prelude.{run, StartError, Table}
use Rattle.rx_base.specs.StartConfig.{StartConfig}
use Rattle.rx_base.specs.Unit.{unit_number}
use Rattle.rx_lemmas.proofs.Words.{IsWord-take, run-nil, run-cons, run-append}
use Rattle.rx_equal.specs.declared.evidence.Link.{Link}
use Rattle.rx_equal.specs.declared.evidence.Parting.{Parting}
use Rattle.rx_equal.specs.Evidence.{RowPair, AreMet, HaveEqualLabels, both, next_pair, next_of, start_pair}
use Rattle.rx_equal.specs.Partings.{IsPlaceOf, AreAlikeBy, answer_at}
use Rattle.rx_equal.specs.Places.{MeetAll, HaveNexts}
use Rattle.rx_equal.specs.Walks.{AreLabelled, AreLevels, Extends, ExtendsBy, IsApart, IsFrom, IsPathTo, IsReachedBy}
use Rattle.rx_equal.specs.Walks.{IsWalk}
use Rattle.rx_equal.proofs.Meets.{rows_met}
use Rattle.rx_equal.proofs.Tests.{contains_get, get_contained}
use Rattle.rx_equal.proofs.Walks.{are_reached, extends_get}
use Rattle.rx_equal.proofs.Words.{alike_from_labels, labels_from_alike}

-- a pair stands below a number
pub record IsNear (pairs : List RowPair) (end : ℕ) (p : RowPair) : Type 0 where
  pub place : ℕ
  pub below : place < end
  pub there : slice_get pairs place ≡ Some p

-- All pairs that are reached by at most so many units as a distance stand below an end; the links of these have no
-- more units, and the links from the end on have one more.
pub record Layers (t u : Table) (links : List Link) (pairs : List RowPair) (at : ℕ) : Type 0 where
  pub distance : ℕ
  pub end : ℕ
  pub level : ℕ → ℕ
  pub levels : AreLevels links level
  pub near : (i : ℕ) → i < end → level i ≤ distance
  pub far : (i : ℕ) → end ≤ i → level i ≡ distance + 1
  pub within : end ≤ length pairs
  pub before : at ≤ end
  pub all : (p : RowPair) → IsReachedBy t u distance p → IsNear pairs end p

-- levels up to a number, and one for all from there on
up_to : ℕ → ℕ → (ℕ → ℕ) → ℕ → ℕ
up_to n top level i = if nat_lt i n then level i else top

below_is : (n top : ℕ) (level : ℕ → ℕ) (i : ℕ) → i < n → up_to n top level i ≡ level i
unfolding up_to
below_is n top level i h = ap (λ b. if b then level i else top) (lt-ltb i n h)

past_is : (n top : ℕ) (level : ℕ → ℕ) (i : ℕ) → n ≤ i → up_to n top level i ≡ top
unfolding up_to
past_is n top level i h = ap (λ b. if b then level i else top) (le-ltb i n h)

start_is : (next : RowPair → ℕ → RowPair) (start p : RowPair) (word : List ℕ) → length word ≤ 0
    → run next start word ≡ p → start ≡ p
start_is next start p [] h leads = sym (run-nil next start) ∙ leads
start_is next start p (unit ∷ word) h leads = absurd (omega arith)

module _ {t u : Table} {links : List Link} {pairs : List RowPair} (walk : IsWalk t u links pairs) where
  near_of : (p : RowPair) → Contains pairs p → IsNear pairs (length pairs) p
  near_of p c = record { place = c.0; below = c.1; there = get_contained pairs p c }

  -- at first there are the pairs at the places
  pub layers_first : MeetAll t u pairs → ExtendsBy None [] links → Layers t u links pairs 0
  layers_first met starts = record {
    distance = 0;
    end = length pairs;
    level = up_to (length pairs) 1 (λ i. 0);
    levels = λ i from unit there.
        ⊎_elim (λ (old : slice_get [] i ≡ Some (Link.Next from unit)). absurd (cc))
        (λ (new : (0 ≤ i) × IsFrom None (Link.Next from unit)). absurd (new.1))
        (starts.each i (Link.Next from unit) there);
    near = λ i h. (let e = below_is (length pairs) 1 (λ i. 0) i h in omega arith);
    far = λ i h. past_is (length pairs) 1 (λ i. 0) i h;
    within = omega arith;
    before = omega arith;
    all = λ p r.
        near_of p
        (subst (Contains pairs) (start_is (next_pair t u) r.start p r.word r.short r.leads)
        (rows_met t u pairs r.place r.start r.begins (met r.place r.is_place)));
  }

  -- the successors of the pairs below an end are all pairs that are one unit farther away
  one_farther : (at : ℕ) (l : Layers t u links pairs at)
      → ((k : ℕ) → k < l.end → (p : RowPair) → slice_get pairs k ≡ Some p → HaveNexts t u pairs p)
      → (p : RowPair) → (r : IsReachedBy t u (l.distance + 1) p) → l.distance < length r.word
      → IsNear pairs (length pairs) p
  one_farther at l nexts p r long =
      let d = l.distance in
      let word = take d r.word in
      let unit = get_or r.word d 0 in
      let next = next_pair t u in
      let short = r.short in
      let split : r.word ≡ word ++ unit ∷ [] =
      sym (take_all (d + 1) r.word (omega arith)) ∙ take_more r.word d 0 long in
      let q = run next r.start word in
      let here = l.all q (record {
        place = r.place;
        is_place = r.is_place;
        start = r.start;
        begins = r.begins;
        word = word;
        is_word = IsWord-take d r.word r.is_word;
        leads = refl;
        short = (let e = length-take-le d r.word (omega arith) in omega arith);
      }) in
      let leads : next q unit ≡ p =
      sym (run-nil next (next q unit)) ∙ sym (run-cons next q unit []) ∙ sym (run-append next r.start word (unit ∷ []))
      ∙ ap (run next r.start) (sym split) ∙ r.leads in
      subst (IsNear pairs (length pairs)) leads
      (near_of (next q unit)
      (nexts here.place here.below q here.there unit (r.is_word unit (Contains-get_or r.word d 0 long))))

  farther : (at : ℕ) (l : Layers t u links pairs at) → l.end ≤ at → at < length pairs
      → ((k : ℕ) → k < at → (p : RowPair) → slice_get pairs k ≡ Some p → HaveNexts t u pairs p)
      → Layers t u links pairs at
  farther at l past inside nexts =
      let top = l.distance + 1 + 1 in
      let level = up_to (length pairs) top l.level in
      let within = l.within in
      let count = walk.count in
      record {
        distance = l.distance + 1;
        end = length pairs;
        level = level;
        levels = λ i from unit there. grind (arith, common_steps, slice_get_within, below_is);
        near = λ i h. grind (arith, common_steps, below_is);
        far = λ i h. past_is (length pairs) top l.level i h;
        within = omega arith;
        before = omega arith;
        all = λ p r.
            ⊎_elim
            (λ (long : l.distance < length r.word).
            one_farther at l (λ k h. nexts k (omega arith)) p r long)
            (λ (few : length r.word ≤ l.distance).
            let here = l.all p (record {
              place = r.place;
              is_place = r.is_place;
              start = r.start;
              begins = r.begins;
              word = r.word;
              is_word = r.is_word;
              leads = r.leads;
              short = few;
            }) in
            record {
              place = here.place;
              below = (let b = here.below in omega arith);
              there = here.there;
            })
            (cases_lt l.distance (length r.word));
      }

  -- the pair at hand is at the distance
  pub ahead : (at : ℕ) → Layers t u links pairs at → at < length pairs
      → ((k : ℕ) → k < at → (p : RowPair) → slice_get pairs k ≡ Some p → HaveNexts t u pairs p)
      → (l : Layers t u links pairs at) × (at < l.end)
  unfolding farther
  ahead at l inside nexts =
      ⊎_elim (λ (h : at < l.end). (l, h)) (λ (h : l.end ≤ at). (farther at l h inside nexts, inside))
      (cases_lt at l.end)

  -- links from the pair at hand lead one unit farther
  levels_on : (at : ℕ) (l : Layers t u links pairs at) → at < l.end → (after : List Link)
      → ExtendsBy (Some at) links after → AreLevels after l.level
  levels_on at l h after more i from unit there =
      ⊎_elim (λ (old : slice_get links i ≡ Some (Link.Next from unit)). l.levels i from unit old)
      (λ (new : (length links ≤ i) × (from ≡ at)).
      let near = l.near at h in
      let past = new.0 in
      let count = walk.count in
      omega arith)
      (more.each i (Link.Next from unit) there)

  pub layers_on : (at : ℕ) (l : Layers t u links pairs at) → at < l.end → (after : List Link) (later : List RowPair)
      → ExtendsBy (Some at) links after → Extends pairs later → Layers t u after later (at + 1)
  layers_on at l h after later more extends = record {
    distance = l.distance;
    end = l.end;
    level = l.level;
    levels = levels_on at l h after more;
    near = l.near;
    far = l.far;
    within = (let w = l.within in let e = ap length extends.all in let n = length-append pairs extends.more in
        omega arith);
    before = omega arith;
    all = λ p r.
        (let here = l.all p r in
        record {
          place = here.place;
          below = here.below;
          there = extends_get extends here.place p here.there;
        });
  }

  -- words as short as the distance part nothing
  near_alike : (at : ℕ) (l : Layers t u links pairs at) → MeetAll t u pairs → AreLabelled t u pairs
      → (place : StartConfig) → IsPlaceOf t u place → (word : List ℕ) → IsWord word → length word ≤ l.distance
      → AreAlikeBy t u word (answer_at t place) (answer_at u place)
  near_alike at l met labels place is word w short =
      by_answers (answer_at t place) (answer_at u place) refl refl (met place is)
    where
      by_rows : (start : RowPair) → start_pair t u place ≡ Some start
          → AreAlikeBy t u word (answer_at t place) (answer_at u place)
      by_rows start begins =
          let end = run (next_pair t u) start word in
          let here = l.all end (record {
            place = place;
            is_place = is;
            start = start;
            begins = begins;
            word = word;
            is_word = w;
            leads = refl;
            short = short;
          }) in
          alike_from_labels t u place start end word begins refl
          (labels end (contains_get pairs here.place end here.there))

      by_answers : (o r : Result ℕ StartError) → answer_at t place ≡ o → answer_at u place ≡ r → AreMet pairs o r
          → AreAlikeBy t u word (answer_at t place) (answer_at u place)
      by_answers (Ok x) (Ok y) e f m =
          by_rows (record { row = x; other = y })
          (ap (λ o. both o (answer_at u place)) e ∙ ap (λ o. both (Ok x) o) f)
      by_answers (Err error) (Err other) e f m = grind (arith, common_steps)
      by_answers (Ok x) (Err other) e f m = absurd m
      by_answers (Err error) (Ok y) e f m = absurd m

  -- a path to labels that differ is a shortest parting
  pub apart_by : (at unit : ℕ) (p : Parting) (q : RowPair) (after : List Link) (later : List RowPair)
      → (l : Layers t u links pairs at) → at < l.end → MeetAll t u pairs → AreLabelled t u pairs
      → ExtendsBy (Some at) links after → IsWalk t u after later → IsPathTo t u after later at unit p
      → slice_get later at ≡ Some q → (HaveEqualLabels t u (next_pair t u q unit) → ⊥) → IsApart t u p
  apart_by at unit p q after later l h met labels more other path there differ =
      let next = next_pair t u q unit in
      let word = map unit_number p.word in
      let leads = same_Some next (run (next_pair t u) path.start word)
      (sym (ap (λ o. next_of t u o unit) there) ∙ path.leads) in
      let short = path.short l.level (levels_on at l h after more) in
      record {
        is_place = path.is_place;
        is_word = path.is_word;
        parts = λ alike. differ (labels_from_alike t u p.place path.start next word path.begins (sym leads) alike);
        short = are_reached other (length p.word)
            (let s = path.short (λ i. i) (λ i from v at_i. (other.follows i (Link.Next from v) at_i).0) in
            let w = slice_get_within later at q there in omega arith);
        least = λ place v is w parts.
            ⊎_elim
            (λ (less : length v < length p.word).
            absurd (parts (near_alike at l met labels place is v w (omega arith))))
            (λ (more : length p.word ≤ length v). more)
            (cases_lt (length v) (length p.word));
      }
