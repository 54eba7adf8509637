-- What the tests of special ids say: of the label of a row, and of the rows in a range.
use Rattle.rx_spec.proofs.Prelude.{common_steps, ◌≡◌, ℕ, ◌<◌, ◌≤◌, ◌&&◌, ◌||◌, Bool, true, false, cond, leb, List, refl}
use Rattle.rx_spec.proofs.Prelude.{arith, and_parts, leb-true, false_from_ne_true, Label, is_match_label}
use Rattle.rx_dense.specs.Specials.{greatest, is_in_range, is_match_id}
use Rattle.rx_dense.specs.declared.special.Special.{Special}
use Rattle.rx_image_parts.specs.SpecialIds.{is_named, are_past_quit, are_ranges, are_special, begin_in_order, is_range}

-- ---- labels by the two tests

unfoldable pub label_by : Bool → Bool → List ℕ → Label
label_by m q ks = cond m (Label.Matches ks) (cond q Label.Quits Label.Plain)

pub plain_by : (m q : Bool) (ks : List ℕ) → m ≡ false → q ≡ false → label_by m q ks ≡ Label.Plain
unfolding label_by
plain_by m q ks e f = rw (e, f) refl

pub quits_by : (m q : Bool) (ks : List ℕ) → m ≡ false → q ≡ true → label_by m q ks ≡ Label.Quits
unfolding label_by
quits_by m q ks e f = rw (e, f) refl

pub quits_only_by : (m q : Bool) (ks : List ℕ) → label_by m q ks ≡ Label.Quits → q ≡ true
unfolding label_by
quits_only_by true q ks e = absurd cc
quits_only_by false true ks e = refl
quits_only_by false false ks e = absurd cc

pub matches_by : (m q : Bool) (ks : List ℕ) → is_match_label (label_by m q ks) ≡ m
unfolding label_by
matches_by true q ks = refl
matches_by false true ks = refl
matches_by false false ks = refl

pub lists_by : (m q : Bool) (ks xs : List ℕ) → label_by m q ks ≡ Label.Matches xs → (m ≡ true) × (ks ≡ xs)
unfolding label_by
lists_by true q ks xs e = (refl, cc)
lists_by false true ks xs e = absurd cc
lists_by false false ks xs e = absurd cc

-- ---- ranges of ids

-- what a range of ids says of an id
pub record IsWithin (first last id : ℕ) : Type 0 where
  pub from : first ≤ id
  pub to : id ≤ last
  pub some : 0 < id

pub within_of : (first last id : ℕ) → is_in_range first last id ≡ true → IsWithin first last id
within_of first last id test = grind (arith, common_steps)

-- a range that has an id begins above 0
pub range_begins : (first last : ℕ) → is_range first last ≡ true → 0 < last → 0 < first
range_begins first last test some = grind (arith, common_steps)

-- ---- special ids that pass the test

module _ (s : Special) (test : are_special s ≡ true) where
  first_ranges : (is_range s.min_match s.max_match && is_range s.min_accel s.max_accel) ≡ true
  first_ranges =
      (and_parts _ (is_range s.min_start s.max_start)
      (and_parts (are_ranges s) (are_past_quit s)
      (and_parts _ (begin_in_order s) (and_parts _ (leb (greatest s) s.max) test).0).0).0).0

  pub match_range : is_range s.min_match s.max_match ≡ true
  match_range = (and_parts (is_range s.min_match s.max_match) (is_range s.min_accel s.max_accel) first_ranges).0

  pub accel_range : is_range s.min_accel s.max_accel ≡ true
  accel_range = (and_parts (is_range s.min_match s.max_match) (is_range s.min_accel s.max_accel) first_ranges).1

  -- dead and quit are no match rows
  pub no_match : (id : ℕ) → id ≤ s.quit → is_match_id s id ≡ false
  no_match id le = grind (arith, common_steps, false_from_ne_true)

  -- a named id is at most the greatest
  pub named_few : (id : ℕ) → is_named s id ≡ true → id ≤ s.max
  named_few id e = grind (arith, common_steps, leb-true _ _ (and_parts _ (leb (greatest s) s.max) test).1)

-- tests of equal parts
pub alike : {a b c d e f : Bool} → a ≡ b → c ≡ d → e ≡ f → (g h : Bool)
    → (a || c || e || g || h) ≡ (b || d || f || g || h)
alike p q r g h = cc
