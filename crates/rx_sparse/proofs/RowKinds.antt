-- Kinds of rows by their ids.
use Rattle.rx_spec.proofs.Prelude.{arith, ◌≡◌, ℕ, ◌&&◌, not, nat_le, Bool, true, false, List, refl, ap, sym, ◌∙◌}
use Rattle.rx_spec.proofs.Prelude.{common_steps, id_of, row_of, is_match, is_match_label}
use Rattle.rx_search.specs.Starts.{IsId}
use Rattle.rx_search.specs.Labels.{is_quit, is_quit_label, label_patterns, patterns_of}
use Rattle.rx_dense.specs.Specials.{is_match_id, is_quit_id, is_accel_id, is_start_id}
use Rattle.rx_dense.proofs.RowKinds.{label_by, match_by, quit_by}
use Rattle.rx_dense.proofs.Rows.{id_at_row}
use Rattle.rx_sparse.specs.Layouts.{Layout, ids_of, label_of_row, row_at, table_of}

matches_by : (m q : Bool) (ks : List ℕ) → is_match_label (label_by m q ks) ≡ true
    → ks ≡ label_patterns (label_by m q ks)
matches_by true q ks e = refl
matches_by false true ks e = absurd (cc)
matches_by false false ks e = absurd (cc)

module _ (l : Layout) (id : ℕ) (is : IsId (ids_of l) id) where
  abbrev row : ℕ
  row = row_of (ids_of l) id

  at_row : {X : Type 0} (f : ℕ → X) → f id ≡ f (id_of (ids_of l) row)
  at_row f = sym (ap f (id_at_row (ids_of l) id is))

  pub special_kind : nat_le id l.special.max ≡ (table_of l).is_special row
  special_kind = at_row (λ x. nat_le x l.special.max)

  pub accel_kind : is_accel_id l.special id ≡ (table_of l).is_accelerated row
  accel_kind = at_row (is_accel_id l.special)

  pub start_kind : is_start_id l.special id ≡ (table_of l).is_start row
  start_kind = at_row (is_start_id l.special)

  pub match_kind : is_match_id l.special id ≡ is_match (table_of l) row
  match_kind =
      sym (match_by (is_match_id l.special id) (is_quit_id l.special id) (row_at l row).patterns)
      ∙ at_row (λ x. is_match_label (label_of_row l.special x (row_at l row)))

  pub quit_kind : (is_quit_id l.special id && not (is_match_id l.special id)) ≡ is_quit (table_of l) row
  quit_kind =
      sym (quit_by (is_match_id l.special id) (is_quit_id l.special id) (row_at l row).patterns)
      ∙ at_row (λ x. is_quit_label (label_of_row l.special x (row_at l row)))

  -- the patterns of a match row
  pub match_patterns : is_match (table_of l) row ≡ true → (row_at l row).patterns ≡ patterns_of (table_of l) row
  match_patterns e = grind (arith, common_steps, matches_by)
