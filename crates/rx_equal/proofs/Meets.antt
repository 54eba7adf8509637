-- Places of which pairs take care.
use Rattle.rx_spec.proofs.Prelude.{common_steps, ℕ, suc, ◌≡◌, ◌+◌, ◌<◌, ◌≤◌, max, Some, None, Option, List, [], ◌∷◌}
use Rattle.rx_spec.proofs.Prelude.{◌++◌, refl, ap, sym, ◌∙◌, subst, arith, drop, length, same_Some, drop_of_length-le}
use Rattle.rx_spec.proofs.Prelude.{Contains-append_left, Contains-push, Contains-push_cases, Contains, IfSome}
use Rattle.rx_spec.proofs.Prelude.{slice_get, Anchored, Table}
use Rattle.rx_base.specs.StartConfig.{StartConfig}
use Rattle.rx_equal.specs.declared.evidence.Link.{Link}
use Rattle.rx_equal.specs.Partings.{answer_at, IsModeOf}
use Rattle.rx_equal.specs.Evidence.{RowPair, start_pair, AreClosed, AreEvidence, pairs_from, link_pair, HaveEqualLabels}
use Rattle.rx_equal.specs.Places.{Meet, MeetMode, MeetAll, mode_at}
use Rattle.rx_equal.proofs.Words.{rows_begin, drop_get}

module _ (t u : Table) (pairs : List RowPair) (place : StartConfig) where
  pub met_rows : (p : RowPair) → start_pair t u place ≡ Some p → Contains pairs p → Meet t u pairs place
  met_rows p e c = grind (arith, common_steps)

  pub rows_met : (p : RowPair) → start_pair t u place ≡ Some p → Meet t u pairs place → Contains pairs p
  rows_met p e m =
      let rows = rows_begin (answer_at t place) (answer_at u place) p e in
      grind (arith, common_steps)

-- ---- places by their numbers

mode_number : Anchored → ℕ
mode_number Anchored.No = 0
mode_number Anchored.Yes = 1
mode_number (Anchored.Pattern k) = suc (suc k)

mode_there : (mode : Anchored) → mode_at (mode_number mode) ≡ mode
unfolding mode_number
mode_there Anchored.No = refl
mode_there _ = refl

mode_below : (t u : Table) (mode : Anchored) → IsModeOf t u mode → mode_number mode < max t.pattern_len u.pattern_len
    + 3
unfolding mode_number
mode_below t u (Anchored.Pattern k) is = omega (arith, is)
mode_below t u _ is = omega arith

pub beside_met : (t u : Table) (pairs : List RowPair) (mode : Anchored) → MeetMode t u pairs mode → (beside : Option ℕ)
    → IfSome beside (λ byte. byte < 256) → Meet t u pairs (record { beside = beside; mode = mode })
beside_met t u pairs mode all None h = all 256 (omega arith)
beside_met t u pairs mode all (Some byte) h = grind (arith, common_steps)

module _ (t u : Table) (pairs : List RowPair) where
  pub all_met : ((m : ℕ) → m < max t.pattern_len u.pattern_len + 3 → MeetMode t u pairs (mode_at m)) → MeetAll t u pairs
  all_met each place is =
      let mode = place.mode in
      subst (λ (v : Anchored). Meet t u pairs (record { beside = place.beside; mode = v })) (mode_there mode)
      (beside_met t u pairs (mode_at (mode_number mode)) (each (mode_number mode) (mode_below t u mode is.mode))
      place.beside is.beside)

-- ---- the pairs of links

-- a link's pair comes behind the earlier ones
pub pairs_step : (t u : Table) (link : Link) (links : List Link) (earlier : List RowPair) (p : RowPair)
    → link_pair t u earlier link ≡ Some p
    → pairs_from t u earlier (link ∷ links) ≡ pairs_from t u (earlier ++ p ∷ []) links
pairs_step t u link links earlier p e = grind (arith, common_steps)

by_pair : (t u : Table) (link : Link) (links : List Link) (earlier pairs : List RowPair)
    → pairs_from t u earlier (link ∷ links) ≡ Some pairs → (p : RowPair) (o : Option RowPair)
    → link_pair t u earlier link ≡ o
    → ((q : RowPair) → pairs_from t u (earlier ++ q ∷ []) links ≡ Some pairs → Contains pairs p) → Contains pairs p
by_pair t u link links earlier pairs e p (Some q) is go = go q (sym (pairs_step t u link links earlier q is) ∙ e)
by_pair t u link links earlier pairs e p None is go = grind (arith, common_steps)

pub pairs_within : (t u : Table) (links : List Link) (earlier pairs : List RowPair)
    → pairs_from t u earlier links ≡ Some pairs → (p : RowPair) → Contains earlier p → Contains pairs p
pairs_within t u [] earlier pairs e p c = subst (λ ps. Contains ps p) (same_Some earlier pairs e) c
pairs_within t u (link ∷ links) earlier pairs e p c =
    by_pair t u link links earlier pairs e p (link_pair t u earlier link) refl
    (λ q e. pairs_within t u links (earlier ++ q ∷ []) pairs e p (Contains-append_left earlier (q ∷ []) p c))

-- the links below a number name pairs, whose labels are equal
pub record AreNamed (t u : Table) (links : List Link) (i : ℕ) (pairs : List RowPair) : Type 0 where
  pub left : pairs_from t u pairs (drop i links) ≡ pairs_from t u [] links
  pub labels : (p : RowPair) → Contains pairs p → HaveEqualLabels t u p

pub named_none : (t u : Table) (links : List Link) {pairs : List RowPair} → pairs ≡ [] → AreNamed t u links 0 pairs
named_none t u links none = grind (arith, common_steps)

pub evidence_closed : {t u : Table} {links : List Link} {pairs : List RowPair} → pairs_from t u [] links ≡ Some pairs
    → AreEvidence t u links → AreClosed t u pairs
evidence_closed {t} {u} {links} {pairs} named v = grind (arith, common_steps)

module _ {t u : Table} {links : List Link} {i : ℕ} {pairs : List RowPair} (named : AreNamed t u links i pairs) where
  pub named_all : length links ≤ i → pairs_from t u [] links ≡ Some pairs
  named_all past = sym named.left ∙ ap (pairs_from t u pairs) (drop_of_length-le links past)

  pub named_closed : length links ≤ i → AreEvidence t u links → AreClosed t u pairs
  named_closed past v = evidence_closed (named_all past) v

  pub named_stop : (link : Link) → slice_get links i ≡ Some link → link_pair t u pairs link ≡ None
      → AreEvidence t u links → ⊥
  named_stop link there e v = grind (arith, common_steps, drop_get)

  module _ (link : Link) (p : RowPair) (there : slice_get links i ≡ Some link)
      (names : link_pair t u pairs link ≡ Some p) where
    left_more : pairs_from t u (pairs ++ p ∷ []) (drop (i + 1) links) ≡ pairs_from t u [] links
    left_more =
        sym (pairs_step t u link (drop (i + 1) links) pairs p names)
        ∙ ap (pairs_from t u pairs) (sym (drop_get links i link there)) ∙ named.left

    pub named_equal : AreEvidence t u links → HaveEqualLabels t u p
    named_equal v =
        v.closed.labels p
        (pairs_within t u (drop (i + 1) links) (pairs ++ p ∷ []) v.pairs (left_more ∙ v.named) p
        (Contains-push pairs p))

    pub named_link : {more : List RowPair} → HaveEqualLabels t u p → more ≡ pairs ++ p ∷ []
        → AreNamed t u links (i + 1) more
    named_link equal is = grind (arith, common_steps, left_more, Contains-push_cases)
