-- What `minimize` leaves.
use Rattle.rx_spec.proofs.Prelude.{common_steps, ◌≡◌, ℕ, ◌<◌, ◌≤◌, List, [], length, refl, sym, ◌∙◌, Some, subst, arith}
use Rattle.rx_spec.proofs.Prelude.{concat, Contains, max_id, IsSound}
use Rattle.rx_minimize.proofs.Prelude.{AnyMode, AreNames, IsMinimized, Layout, is_sound, no_needles, reached, row_count}
use Rattle.rx_minimize.proofs.Prelude.{same}
use Rattle.rx_minimize.proofs.JoinedTables.{IsMinimizing, after, before, first, joined_lists, left, lists_are, numbered}
use Rattle.rx_minimize.proofs.JoinedTables.{quotient, size}
use Rattle.rx_minimize.proofs.LeftKinds.{marked, no_accels, none_accelerated, ordered, special_is, start_row_is}
use Rattle.rx_minimize.proofs.Quotients.{first_below, names, quotient_apart}

module _ {old : Layout} {blocks numbers firsts ids ends : List ℕ} {lists : List (List ℕ)} {new : Layout}
    (s : IsMinimizing old blocks numbers firsts ids ends lists new) where
  no_universal : (row : ℕ) → (after s).universal_unanchored ≡ Some row → row < (after s).size
  no_universal row e = grind (arith, common_steps, left)

  no_universal_anchored : (row : ℕ) → (after s).universal_anchored ≡ Some row → row < (after s).size
  no_universal_anchored row e = grind (arith, common_steps, left)

  in_firsts : {row : ℕ} → row < row_count (left s) → row < length firsts
  in_firsts h = omega (arith, size s)

  other_names : AreNames (before s) (after s)
  other_names = names (numbered s) (quotient s)

  sound : IsSound (after s)
  sound =
      let was = s.kept.in_order.sound in
      is_sound other_names
      (grind (arith, common_steps, was.is_table, was.eoi_goes_on, was.starts_plain, was.patterns))
      (record {
        universal_unanchored = no_universal;
        universal_anchored = no_universal_anchored;
        dead_only = λ row h. refl;
        settings = refl;
        pattern_len = refl;
      })
      (no_needles (after s) (λ row h. none_accelerated s row (in_firsts h)))
      (λ row h e. grind (arith, common_steps, old.accels, left))
      (λ row h. special_is s row (in_firsts h))

  pub minimized : IsMinimized old (left s)
  minimized = record {
    same = same other_names AnyMode;
    apart = quotient_apart (numbered s) (quotient s);
    reached = λ modes reach. reached other_names (Contains modes) reach;
    in_order = record {
      sound = sound;
      ordered = ordered s;
      few = subst (λ (ls : List (List ℕ)). length (concat ls) ≤ max_id) (sym (lists_are s)) s.few;
    };
    plain = record {
      accels = s.kept.plain.accels;
      min_accel = (no_accels s).0;
      max_accel = (no_accels s).1;
      universal_unanchored = s.kept.plain.universal_unanchored;
      universal_anchored = s.kept.plain.universal_anchored;
    };
    joined = joined_lists s;
    marked = λ row h. marked s row (in_firsts h);
    starts =
        λ row h e.
        let is = sym (start_row_is s row (in_firsts h)) ∙ e in
        (first s row, first_below (numbered s) row (in_firsts h), is);
    rest = refl;
  }
