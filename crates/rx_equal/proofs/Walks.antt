-- A walk over pairs: each pair that it has is reached, and where nothing is left to add it has all.
use Rattle.rx_spec.proofs.Prelude.{common_steps, ℕ, zero, suc, ◌≡◌, ◌≢◌, ◌+◌, ◌<◌, ◌≤◌, Option, Some, None, List, []}
use Rattle.rx_spec.proofs.Prelude.{◌∷◌, ◌++◌, length, refl, ap, sym, ◌∙◌, subst, arith, get_or, ⊎_elim, ◌⊎◌, inl, inr}
use Rattle.rx_spec.proofs.Prelude.{length-append, Bool, true, false, Result, Ok, Err, cases_lt, Contains, slice_get}
use Rattle.rx_spec.proofs.Prelude.{IsTrue, slice_get_within, slice_get-get_or, same_Some, get_or_append_left}
use Rattle.rx_spec.proofs.Prelude.{append-nil, run, Table, IsSound, Contains-append_left, Contains-push}
use Rattle.rx_spec.proofs.Prelude.{Contains-push_cases, StartError, start_error, start_row, start_context}
use Rattle.std.proofs.Math.Seq.{get_or-append_seam}
use Rattle.std.proofs.lemmas.List.Quantifiers.{all_pairs_push}
use Rattle.rx_base.specs.Unit.{unit_number}
use Rattle.rx_lemmas.proofs.Words.{IsWord-nil, IsWord-cons, IsWord-append, run-nil, run-cons, run-append, run-within}
use Rattle.rx_equal.specs.declared.evidence.Link.{Link}
use Rattle.rx_equal.specs.Evidence.{RowPair, start_pair, next_pair, next_of, pairs_from, link_pair, AreClosed, AreMet}
use Rattle.rx_equal.specs.Evidence.{IsReached, AreReached, HaveEqualLabels}
use Rattle.rx_equal.specs.Walks.{Follows, IsWalk, IsLink, IsReachedBy, IsEqual, AddsLink, AreWalked, Extends, ExtendsBy}
use Rattle.rx_equal.specs.Walks.{AreLabelled, IsFrom, WentOn, Stepped}
use Rattle.rx_equal.proofs.Sides.{Sides}
use Rattle.rx_equal.proofs.Tests.{below_more, get_contained}
use Rattle.rx_equal.proofs.Meets.{rows_met}
use Rattle.rx_equal.proofs.Closed.{nothing_parts}
use Rattle.rx_base.specs.StartConfig.{StartConfig}
use Rattle.rx_equal.specs.Partings.{answer_at, row_or}
use Rattle.rx_equal.specs.Pairs.{Adds, pairs_of}
use Rattle.rx_equal.specs.declared.walk.Walk.{Walk}
use Rattle.rx_equal.specs.Places.{Meet}
use Rattle.rx_equal.proofs.Words.{rows_begin}

by_first : (t u : Table) (first : Link) (links : List Link) (earlier pairs : List RowPair) (link : Link) (p : RowPair)
    → pairs_from t u earlier (first ∷ links) ≡ Some pairs → link_pair t u pairs link ≡ Some p
    → (o : Option RowPair) → link_pair t u earlier first ≡ o
    → ((q : RowPair) → pairs_from t u (earlier ++ q ∷ []) links ≡ Some pairs
    → pairs_from t u (earlier ++ q ∷ []) (links ++ link ∷ []) ≡ Some (pairs ++ p ∷ []))
    → pairs_from t u earlier (first ∷ (links ++ link ∷ [])) ≡ Some (pairs ++ p ∷ [])
by_first t u first links earlier pairs link p e is (Some q) h go = grind (arith, common_steps)
by_first t u first links earlier pairs link p e is None h go = grind (arith, common_steps)

-- one more link
pub named_more : (t u : Table) (links : List Link) (earlier pairs : List RowPair) (link : Link) (p : RowPair)
    → pairs_from t u earlier links ≡ Some pairs → link_pair t u pairs link ≡ Some p
    → pairs_from t u earlier (links ++ link ∷ []) ≡ Some (pairs ++ p ∷ [])
named_more t u [] earlier pairs link p e is = grind (arith, common_steps)
named_more t u (first ∷ links) earlier pairs link p e is = grind (arith, common_steps, by_first, named_more t u links)

none_within : {X : Type 0} (xs : List X) (i : ℕ) → i < length xs → slice_get xs i ≡ None → ⊥
none_within [] i h e = absurd (omega arith)
none_within (x ∷ xs) i h e = let there = slice_get-get_or (x ∷ xs) i x h in absurd (cc)

-- earlier pairs stay where they are
get_more : {X : Type 0} (xs ys : List X) (i : ℕ) → i < length xs → slice_get (xs ++ ys) i ≡ slice_get xs i
get_more [] ys i h = absurd (omega arith)
get_more {X} (x ∷ xs) ys i h =
    let all : List X = x ∷ xs in
    let e = length-append all ys in
    slice_get-get_or (all ++ ys) i x (omega arith)
    ∙ ap (λ y. Some y) (get_or_append_left all ys x i h) ∙ sym (slice_get-get_or all i x h)

get_last : {X : Type 0} (xs : List X) (x : X) → slice_get (xs ++ x ∷ []) (length xs) ≡ Some x
get_last {X} xs x =
    let one : List X = x ∷ [] in
    let e = length-append xs one in
    slice_get-get_or (xs ++ one) (length xs) x (omega arith) ∙ ap (λ y. Some y) (get_or-append_seam xs x [] x)

source_below : (t u : Table) (pairs : List RowPair) (p : RowPair) (from unit : ℕ) (o : Option RowPair)
    → slice_get pairs from ≡ o → next_of t u (slice_get pairs from) unit ≡ Some p → from < length pairs
source_below t u pairs p from unit (Some q) e stands = slice_get_within pairs from q e
source_below t u pairs p from unit None e stands = grind (arith, common_steps)

link_last : (t u : Table) (pairs : List RowPair) (p : RowPair) (link : Link) → IsLink t u link
    → link_pair t u pairs link ≡ Some p → Follows t u (pairs ++ p ∷ []) (length pairs) link
link_last t u pairs p (Link.Start place) is stands = (is, stands ∙ sym (get_last pairs p))
link_last t u pairs p (Link.Next from unit) is stands =
    let below = source_below t u pairs p from (unit_number unit) (slice_get pairs from) refl stands in (
      below,
      is,
      ap (λ o. next_of t u o (unit_number unit)) (get_more pairs (p ∷ []) from below) ∙ stands
          ∙ sym (get_last pairs p),
    )

get_or_same : {X : Type 0} (xs : List X) (k : ℕ) (d e : X) → k < length xs → get_or xs k e ≡ get_or xs k d
get_or_same xs k d e h = grind (arith, common_steps)

-- what stands in a list with one more item: an earlier item, or the last
at_cases : {X : Type 0} (xs : List X) (y : X) (i : ℕ) (x : X) → slice_get (xs ++ y ∷ []) i ≡ Some x
    → (slice_get xs i ≡ Some x) ⊎ ((i ≡ length xs) × (y ≡ x))
at_cases {X} xs y i x e =
    let one : List X = y ∷ [] in
    let within = slice_get_within (xs ++ one) i x e in
    let len = length-append xs one in
    ⊎_elim (λ (h : i < length xs). inl (sym (get_more xs one i h) ∙ e))
    (λ (h : length xs ≤ i).
    let last : i ≡ length xs = omega arith in
    inr (last, same_Some y x (sym (get_last xs y) ∙ sym (ap (slice_get (xs ++ one)) last) ∙ e)))
    (cases_lt i (length xs))

follows_more : (t u : Table) (pairs more : List RowPair) (i : ℕ) (link : Link) → i < length pairs
    → Follows t u pairs i link → Follows t u (pairs ++ more) i link
follows_more t u pairs more i (Link.Start place) h f = (f.0, f.1 ∙ sym (get_more pairs more i h))
follows_more t u pairs more i (Link.Next from unit) h f = grind (arith, common_steps, get_more)

module _ {t u : Table} {links : List Link} {pairs : List RowPair} (walk : IsWalk t u links pairs) where
  pub walk_more : (link : Link) (p : RowPair) → IsLink t u link → link_pair t u pairs link ≡ Some p
      → (Contains pairs p → ⊥) → IsWalk t u (links ++ link ∷ []) (pairs ++ p ∷ [])
  walk_more link p is stands new = record {
    named = named_more t u links [] pairs link p walk.named stands;
    count = length-append links (link ∷ []) ∙ ap (λ n. n + 1) walk.count ∙ sym (length-append pairs (p ∷ []));
    follows = λ i other there.
        ⊎_elim
        (λ (old : slice_get links i ≡ Some other).
        follows_more t u pairs (p ∷ []) i other
        (let h = slice_get_within links i other old in let c = walk.count in omega arith)
        (walk.follows i other old))
        (λ (last : (i ≡ length links) × (link ≡ other)).
        subst (λ (k : ℕ). Follows t u (pairs ++ p ∷ []) k other) (sym (last.0 ∙ walk.count))
        (subst (λ (l : Link). Follows t u (pairs ++ p ∷ []) (length pairs) l) last.1
        (link_last t u pairs p link is stands)))
        (at_cases links link i other there);
    once = all_pairs_push (λ p q. p ≢ q) pairs p walk.once
        (λ k d h same. new (k, h, get_or_same pairs k d p h ∙ same));
  }

  -- a word that is no longer than a pair's number leads to it
  one_on : (from i : ℕ) (unit : ℕ) (p q : RowPair) → from < i → unit < 257 → next_pair t u q unit ≡ p
      → IsReachedBy t u from q → IsReachedBy t u i p
  one_on from i unit p q below h leads r = record {
    place = r.place;
    is_place = r.is_place;
    start = r.start;
    begins = r.begins;
    word = r.word ++ unit ∷ [];
    is_word = IsWord-append r.word (unit ∷ []) r.is_word (IsWord-cons unit [] h IsWord-nil);
    leads = run-append (next_pair t u) r.start r.word (unit ∷ [])
        ∙ run-cons (next_pair t u) (run (next_pair t u) r.start r.word) unit []
        ∙ run-nil (next_pair t u) (next_pair t u (run (next_pair t u) r.start r.word) unit)
        ∙ ap (λ x. next_pair t u x unit) r.leads ∙ leads;
    short = (let e = length-append r.word (unit ∷ []) in let s = r.short in omega arith);
  }

  by_source : (i : ℕ) (p : RowPair) → slice_get pairs i ≡ Some p
      → ((j : ℕ) (q : RowPair) → j < i → slice_get pairs j ≡ Some q → IsReachedBy t u j q)
      → (from unit : ℕ) → from < i → unit < 257 → (o : Option RowPair) → slice_get pairs from ≡ o
      → next_of t u (slice_get pairs from) unit ≡ slice_get pairs i → IsReachedBy t u i p
  by_source i p there before from unit below h (Some q) is leads =
      one_on from i unit p q below h
      (same_Some (next_pair t u q unit) p (sym (ap (λ o. next_of t u o unit) is) ∙ leads ∙ there))
      (before from q below is)
  by_source i p there before from unit below h None is leads = grind (arith, common_steps)

  by_link : (i : ℕ) (p : RowPair) → slice_get pairs i ≡ Some p
      → ((j : ℕ) (q : RowPair) → j < i → slice_get pairs j ≡ Some q → IsReachedBy t u j q)
      → (link : Link) → Follows t u pairs i link → IsReachedBy t u i p
  by_link i p there before (Link.Start place) f = grind (arith, common_steps, run-nil)
  by_link i p there before (Link.Next from unit) f =
      by_source i p there before from (unit_number unit) f.0 f.1 (slice_get pairs from) refl f.2

  linked : (i : ℕ) → i < length links → (link : Link) × (slice_get links i ≡ Some link)
  linked i h = by_get i h (slice_get links i) refl
    where
      by_get : (i : ℕ) → i < length links → (o : Option Link) → slice_get links i ≡ o
          → (link : Link) × (slice_get links i ≡ Some link)
      by_get i h (Some link) e = (link, e)
      by_get i h None e = absurd (none_within links i h e)

  reached_within : (limit i : ℕ) (p : RowPair) → i < limit → slice_get pairs i ≡ Some p → IsReachedBy t u i p
  reached_within zero i p h there = absurd (omega arith)
  reached_within (suc limit) i p h there =
      let within = slice_get_within pairs i p there in
      let count = walk.count in
      let inside : i < length links = omega arith in
      by_link i p there (λ j q below e. reached_within limit j q (omega arith) e) (linked i inside).0
      (walk.follows i (linked i inside).0 (linked i inside).1)

  pub reached : (i : ℕ) (p : RowPair) → slice_get pairs i ≡ Some p → IsReachedBy t u i p
  reached i p there = reached_within (suc i) i p (omega arith) there

  pub pair_reached : (p : RowPair) → Contains pairs p → IsReached t u p
  pair_reached p c =
      let r = reached c.0 p (get_contained pairs p c) in record {
        place = r.place;
        is_place = r.is_place;
        start = r.start;
        begins = r.begins;
        word = r.word;
        is_word = r.is_word;
        leads = r.leads;
      }

  pub are_reached : (n : ℕ) → n ≤ length pairs → AreReached t u n
  are_reached n h = record { pairs = pairs; once = walk.once; reached = pair_reached; count = h }

  pub is_equal : AreClosed t u pairs → IsEqual t u links
  is_equal closed = record {
    nothing = nothing_parts closed;
    evidence = record { pairs = pairs; named = walk.named; closed = closed };
    once = record {
      pairs = pairs;
      named = walk.named;
      once = walk.once;
      reached = pair_reached;
      all = λ p r.
          subst (Contains pairs) r.leads
          (run-within (next_pair t u) (Contains pairs) (λ q unit c h. closed.nexts q unit c h) r.start r.word
          (rows_met t u pairs r.place r.start r.begins (closed.starts r.place r.is_place)) r.is_word);
    };
  }

-- ---- what goes on keeps

pub extends_both : {first second third : List RowPair} → Extends first second → Extends second third
    → Extends first third
extends_both {first} e f = grind (arith, common_steps)

module _ {before after : List RowPair} (e : Extends before after) where
  pub extends_contains : (p : RowPair) → Contains before p → Contains after p
  extends_contains p c = subst (λ ps. Contains ps p) (sym e.all) (Contains-append_left before e.more p c)

  pub extends_get : (i : ℕ) (p : RowPair) → slice_get before i ≡ Some p → slice_get after i ≡ Some p
  extends_get i p there = grind (arith, common_steps, get_more, slice_get_within)

  pub extends_back : (i : ℕ) (p : RowPair) → i < length before → slice_get after i ≡ Some p
      → slice_get before i ≡ Some p
  extends_back i p h there = sym (get_more before e.more i h) ∙ sym (ap (λ ps. slice_get ps i) e.all) ∙ there

  met_more : (o r : Result ℕ StartError) → AreMet before o r → AreMet after o r
  met_more (Ok x) (Ok y) m = extends_contains (record { row = x; other = y }) m
  met_more (Err x) (Ok y) m = m
  met_more (Err x) (Err y) m = m
  met_more (Ok x) (Err y) m = m

  pub extends_meet : (t u : Table) (place : StartConfig) → Meet t u before place → Meet t u after place
  extends_meet t u place m = met_more (answer_at t place) (answer_at u place) m

pub adds_extends : (before : List RowPair) (p : RowPair) (added : Bool) (after : List RowPair)
    → Adds before p added after → Extends before after
adds_extends before p true after a = record { more = p ∷ []; all = a.1 }
adds_extends before p false after a = record { more = []; all = a.1 ∙ sym (append-nil before) }

pub adds_contains : (before : List RowPair) (p : RowPair) (added : Bool) (after : List RowPair)
    → Adds before p added after → Contains after p
adds_contains before p true after a = subst (λ ps. Contains ps p) (sym a.1) (Contains-push before p)
adds_contains before p false after a = subst (λ ps. Contains ps p) (sym a.1) a.0

pub adds_labels : (t u : Table) (before : List RowPair) (p : RowPair) (added : Bool) (after : List RowPair)
    → Adds before p added after → AreLabelled t u before → (added ≡ true → HaveEqualLabels t u p) → AreLabelled t u
    after
adds_labels t u before p true after a labels here q c =
    ⊎_elim (λ (old : Contains before q). labels q old) (λ (same : p ≡ q). subst (HaveEqualLabels t u) same (here refl))
    (Contains-push_cases before p q (subst (λ ps. Contains ps q) a.1 c))
adds_labels t u before p false after a labels here q c = labels q (subst (λ ps. Contains ps q) a.1 c)

ok_or_zero : Result ℕ StartError → ℕ
ok_or_zero (Ok x) = x
ok_or_zero (Err e) = 0

row_answered : (o : Option StartError) (row x : ℕ) → row_or o row ≡ Ok x → row ≡ x
unfolding ok_or_zero
row_answered None row x e = ap (λ (o : Result ℕ StartError). ok_or_zero o) e
row_answered (Some error) row x e = absurd (cc)

-- start rows tell nothing
pub start_labels : (t u : Table) → IsSound t → IsSound u → (place : StartConfig) (p : RowPair)
    → start_pair t u place ≡ Some p → HaveEqualLabels t u p
start_labels t u s r place p e =
    let rows = rows_begin (answer_at t place) (answer_at u place) p e in
    let first = row_answered (start_error t.settings place.beside place.mode)
    (start_row t.machine t.settings place.beside place.mode) p.row rows.0 in
    let second = row_answered (start_error u.settings place.beside place.mode)
    (start_row u.machine u.settings place.beside place.mode) p.other rows.1 in
    ap t.machine.label (sym first) ∙ s.starts_plain place.mode (start_context t.settings place.beside)
    ∙ sym (r.starts_plain place.mode (start_context u.settings place.beside)) ∙ ap u.machine.label second

pub by_none : (source : Option ℕ) (links : List Link) → ExtendsBy source links links
by_none source links = record { longer = omega arith; each = λ i link there. inl there }

pub by_added : (source : Option ℕ) (before : List Link) (link : Link) (added : Bool) (after : List Link)
    → IsFrom source link → AddsLink before link added after → ExtendsBy source before after
by_added source before link true after is e = grind (arith, common_steps, at_cases)
by_added source before link false after is e = subst (ExtendsBy source before) (sym e) (by_none source before)

module _ {t : Table} {ids : List ℕ} {u : Table} {others : List ℕ} {source : Option ℕ} where
  pub went_both : {first second third : Walk} → WentOn t ids u others source first second
      → WentOn t ids u others source second third → WentOn t ids u others source first third
  went_both e f = grind (arith, common_steps, extends_both)

  pub went_by : (before after : Walk) (p : RowPair) (link : Link) (added : Bool) → AreWalked t ids u others after
      → Adds (pairs_of ids others before.pairs) p added (pairs_of ids others after.pairs)
      → AddsLink before.links link added after.links → IsFrom source link
      → WentOn t ids u others source before after
  went_by before after p link added walked adds links is = record {
    walked = walked;
    extends = adds_extends (pairs_of ids others before.pairs) p added (pairs_of ids others after.pairs) adds;
    links = by_added source before.links link added after.links is links;
  }

-- a walk went on from one source: labels stayed equal, and for each number below one it was done what had to be
pub record GoesOn (s : Sides) (source : Option ℕ) (Done : List RowPair → ℕ → Type 0) (n : ℕ) (before after : Walk)
    : Type 0 where
  pub went_on : WentOn s.t s.ids s.u s.others source before after
  pub labels : AreLabelled s.t s.u (pairs_of s.ids s.others after.pairs)
  pub done : (k : ℕ) → k < n → Done (pairs_of s.ids s.others after.pairs) k

pub goes_more : {s : Sides} {source : Option ℕ} {n : ℕ} {before here after : Walk} (Done : List RowPair → ℕ → Type 0)
    → ((x y : List RowPair) → Extends x y → (k : ℕ) → Done x k → Done y k) → GoesOn s source Done n before here
    → WentOn s.t s.ids s.u s.others source here after → AreLabelled s.t s.u (pairs_of s.ids s.others after.pairs)
    → Done (pairs_of s.ids s.others after.pairs) n → GoesOn s source Done (n + 1) before after
goes_more {s} {n = n} {here = here} {after = after} Done stays g on labels last = record {
  went_on = went_both g.went_on on;
  labels = labels;
  done = below_more (Done (pairs_of s.ids s.others after.pairs)) n (λ k h. stays (pairs_of s.ids s.others here.pairs)
      (pairs_of s.ids s.others after.pairs) on.extends k (g.done k h)) last;
}

stepped_new : (t u : Table) (before after : List RowPair) (p : RowPair) (unit : ℕ) (equal : Bool)
    → Adds before (next_pair t u p unit) true after → AreLabelled t u before
    → (IsTrue equal → HaveEqualLabels t u (next_pair t u p unit))
    → (HaveEqualLabels t u (next_pair t u p unit) → IsTrue equal) → Stepped t u p unit after equal
stepped_new t u before after p unit true a labels to from = (
  adds_labels t u before (next_pair t u p unit) true after a labels (λ _. to refl),
  adds_contains before (next_pair t u p unit) true after a,
)
stepped_new t u before after p unit false a labels to from = λ same. (let f = from same in absurd (cc))

pub stepped_by : (t u : Table) (before after : List RowPair) (p q : RowPair) (unit : ℕ) (added equal : Bool)
    → q ≡ next_pair t u p unit → Adds before q added after → added ≡ true → AreLabelled t u before
    → (IsTrue equal → HaveEqualLabels t u q) → (HaveEqualLabels t u q → IsTrue equal) → Stepped t u p unit after equal
stepped_by t u before after p q unit added equal same a is labels to from =
    stepped_new t u before after p unit equal
    (subst (λ x. Adds before x true after) same (subst (λ v. Adds before q v after) is a)) labels
    (λ e. subst (HaveEqualLabels t u) same (to e)) (λ h. from (subst (HaveEqualLabels t u) (sym same) h))
