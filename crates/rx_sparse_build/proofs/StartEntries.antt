-- Where start entries stand, how few there are, and that those of a sound table pass the test of an image.
use Rattle.rx_spec.proofs.Prelude.{◌≡◌, ℕ, ◌+◌, ◌*◌, ◌/◌, ◌%◌, ◌<◌, ◌≤◌, ◌&&◌, not, Bool, true, false, eqb, List}
use Rattle.rx_spec.proofs.Prelude.{Option, Some, None, length, slice_index, refl, ap, ◌∙◌, arith, if◌then◌else◌}
use Rattle.rx_spec.proofs.Prelude.{eqb-true, false_from_ne_true, lt-ltb, ne_eqb, id_count, max_id, Label, Anchored}
use Rattle.rx_spec.specs.declared.Start.{Start}
use Rattle.rx_base.specs.Search.{mode_of}
use Rattle.rx_dense.specs.declared.special.Special.{Special}
use Rattle.rx_dense.specs.Specials.{is_match_id, is_quit_id}
use Rattle.rx_dense.specs.Layouts.{context_number, mode_place, start_entries}
use Rattle.rx_dense.proofs.StartNumbers.{context_at, context_at-number, mode_at, mode_at-place}
use Rattle.rx_image_parts.specs.StartTables.{IsAtMost}
use Rattle.rx_image_parts.proofs.IdTables.{start_at}
use Rattle.rx_sparse_build.proofs.KindTests.{plain_matches, plain_quits}

-- start entries that are few are those of few patterns
pub few_starts : (o : Option ℕ) → start_entries o ≤ 12 + 6 * (max_id + 1) → IsAtMost id_count o
few_starts None h = tt
few_starts (Some n) h = omega (arith, h)

-- each place among the start entries is that of a mode and a context
pub record IsEntryAt (starts : List ℕ) (k : ℕ) : Type 0 where
  pub mode : Anchored
  pub start : Start
  pub is : start_at starts mode start ≡ slice_index starts k

pub entry_at : (starts : List ℕ) (k : ℕ) → k < length starts → IsEntryAt starts k
entry_at starts k lt =
    let mode : Anchored = mode_of (mode_at (k / 6)) in
    let start : Start = context_at (k % 6) in
    let place : mode_place mode + context_number start ≡ k =
    omega (arith, mode_at-place (k / 6), context_at-number (k % 6) (omega arith)) in
    record {
      mode = mode;
      start = start;
      is =
          ap (λ (b : Bool). if b then slice_index starts (mode_place mode + context_number start) else 0)
          (lt-ltb (mode_place mode) (length starts) (omega (arith, mode_at-place (k / 6), lt)))
          ∙ ap (slice_index starts) place;
    }

-- the id of a row that is plain neither matches nor quits
pub plain_passes : (s : Special) (id : ℕ) (ks : List ℕ) (is_id : Bool) → 0 < s.quit → is_id ≡ true
    → (if is_match_id s id then Label.Matches ks else (if is_quit_id s id then Label.Quits else Label.Plain))
    ≡ Label.Plain
    → (is_id && not (is_match_id s id) && not (eqb id s.quit)) ≡ true
plain_passes s id ks is_id some passes plain =
    let no_match =
    false_from_ne_true (is_match_id s id) (plain_matches (is_match_id s id) (is_quit_id s id) ks plain) in
    let no_quit = false_from_ne_true (eqb id s.quit)
    (λ q.
    let other : eqb id 0 ≡ false = ne_eqb id 0 (λ z. absurd (omega (arith, z, eqb-true _ _ q, some))) in
    plain_quits (is_match_id s id) (is_quit_id s id) ks plain (rw (q, other) refl)) in
    rw (passes, no_match, no_quit) refl
