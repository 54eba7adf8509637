-- Offsets lie as dense ids do, so the special ids of a sparse table are in order where those of the dense one are.
use Rattle.rx_spec.proofs.Prelude.{◌≡◌, ℕ, ◌&&◌, Bool, eqb, leb, ltb, refl, sym, ap, ◌∙◌, arith, inl, inr, max}
use Rattle.rx_spec.proofs.Prelude.{cases_lt, le-ltb, leb-true, ltb-false}
use Rattle.rx_dense.specs.declared.special.Special.{Special}
use Rattle.rx_dense.specs.Specials.{greatest}
use Rattle.rx_dense.specs.Layouts.{AreRows, IsRowId, Layout}
use Rattle.rx_dense.specs.Builder.{renamed_id}
use Rattle.rx_order.proofs.KindNumbers.{at_most}
use Rattle.rx_image_parts.specs.SpecialIds.{are_special, begins_after, is_past_quit, is_range}
use Rattle.rx_sparse.specs.Sparse.{AreSpecialRows, offsets_of, renamed_special}
use Rattle.rx_sparse.proofs.SparseTables.{LieAlike, eq_alike, ids_alike, le_alike, lt_alike, renamed_zero}
use Rattle.rx_sparse_build.proofs.Ordered.{greater, zero_row}

-- tests that are the same one by one are the same together
three_same : {a b c x y z : Bool} → a ≡ x → b ≡ y → c ≡ z → (a && b && c) ≡ (x && y && z)
three_same p q r = rw (p, q, r) refl

all_same : {a b c d w x y z : Bool} → a ≡ w → b ≡ x → c ≡ y → d ≡ z → (a && b && c && d) ≡ (w && x && y && z)
all_same p q r s = rw (p, q, r, s) refl

module _ (l : Layout) (rows : AreRows l) where
  abbrev renamed : ℕ → ℕ
  renamed = renamed_id l (offsets_of l)

  -- ---- tests

  -- a test of ids and of their offsets is the same
  module _ (a : ℕ) (is_a : IsRowId l a) where
    zero_same : eqb (renamed a) 0 ≡ eqb a 0
    zero_same =
        ap (eqb (renamed a)) (sym (renamed_zero l rows))
        ∙ eq_alike _ _ _ _ (ids_alike l rows a 0 is_a (zero_row l rows))

    module _ (b : ℕ) (is_b : IsRowId l b) where
      abbrev alike : LieAlike (renamed a) (renamed b) a b
      alike = ids_alike l rows a b is_a is_b

      le_same : leb (renamed a) (renamed b) ≡ leb a b
      le_same = le_alike _ _ _ _ alike

      lt_same : ltb (renamed a) (renamed b) ≡ ltb a b
      lt_same = lt_alike _ _ _ _ alike

      max_same : max (renamed a) (renamed b) ≡ renamed (max a b)
      max_same =
          elim (cases_lt a b) [
            | inl less ↦ (
                let e : b ≡ max a b = omega (arith, less) in
                let low = leb-true _ _ (le_same ∙ at_most a b (omega (arith, less))) in
                let m : max (renamed a) (renamed b) ≡ renamed b = omega (arith, low) in
                m ∙ ap renamed e)
            | inr more ↦ (
                let e : a ≡ max a b = omega (arith, more) in
                let low = ltb-false _ _ (lt_same ∙ le-ltb a b more) in
                let m : max (renamed a) (renamed b) ≡ renamed a = omega (arith, low) in
                m ∙ ap renamed e)
          ]

  -- ---- special ids

  -- what is asked of special ids is asked alike of their offsets
  range_same : (first last : ℕ) → IsRowId l first → IsRowId l last
      → is_range (renamed first) (renamed last) ≡ is_range first last
  range_same first last a b = rw (zero_same first a, zero_same last b, le_same first a last b) refl

  past_same : (quit first : ℕ) → IsRowId l quit → IsRowId l first
      → is_past_quit (renamed quit) (renamed first) ≡ is_past_quit quit first
  past_same quit first a b = rw (zero_same first b, lt_same quit a first b) refl

  after_same : (first other : ℕ) → IsRowId l first → IsRowId l other
      → begins_after (renamed first) (renamed other) ≡ begins_after first other
  after_same first other a b = rw (zero_same first a, zero_same other b, le_same other b first a) refl

  module _ (are : AreSpecialRows l) where
    -- the greatest of the offsets is that of the greatest id
    most_same : leb (greatest (renamed_special renamed l.special)) (renamed l.special.max)
        ≡ leb (greatest l.special) l.special.max
    most_same =
        let s : Special = l.special in
        let m : ℕ = max s.quit s.max_match in
        let m_row = greater l rows s.quit s.max_match are.quit are.max_match in
        let n : ℕ = max m s.max_accel in
        let n_row = greater l rows m s.max_accel m_row are.max_accel in
        let kept : greatest (renamed_special renamed s) ≡ renamed (greatest s) =
        ap (λ (k : ℕ). max (max k (renamed s.max_accel)) (renamed s.max_start))
        (max_same s.quit are.quit s.max_match are.max_match)
        ∙ ap (λ (k : ℕ). max k (renamed s.max_start)) (max_same m m_row s.max_accel are.max_accel)
        ∙ max_same n n_row s.max_start are.max_start in
        ap (λ (k : ℕ). leb k (renamed s.max)) kept
        ∙ le_same (greatest s) (greater l rows n s.max_start n_row are.max_start) s.max are.max

    -- so special ids have offsets that pass the test of an image where they pass it
    pub special_same : are_special (renamed_special renamed l.special) ≡ are_special l.special
    special_same =
        let s : Special = l.special in
        all_same
        (three_same (range_same s.min_match s.max_match are.min_match are.max_match)
        (range_same s.min_accel s.max_accel are.min_accel are.max_accel)
        (range_same s.min_start s.max_start are.min_start are.max_start))
        (three_same (past_same s.quit s.min_match are.quit are.min_match)
        (past_same s.quit s.min_accel are.quit are.min_accel) (past_same s.quit s.min_start are.quit are.min_start))
        (three_same (after_same s.min_accel s.min_match are.min_accel are.min_match)
        (after_same s.min_start s.min_match are.min_start are.min_match)
        (after_same s.min_start s.min_accel are.min_start are.min_accel))
        most_same
