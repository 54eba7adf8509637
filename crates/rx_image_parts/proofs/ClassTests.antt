-- The test of classes.
use Rattle.rx_spec.proofs.Prelude.{◌≡◌, ℕ, ◌≤◌, ◌+◌, ◌==◌, Bool, true, false, List, length, slice_index, arith, sym}
use Rattle.rx_spec.proofs.Prelude.{is_some, Option, Some, None, ◌↔◌, refl, list_all, range_with_len, and_parts, eq-eqb}
use Rattle.rx_spec.proofs.Prelude.{eqb-true, and_from}
use Rattle.std.proofs.Common.{IsSome}
use Rattle.rx_base.specs.ByteClasses.{AreClasses}
use Rattle.rx_image_parts.specs.Classes.{are_classes, follows}
use Rattle.rx_image_parts.proofs.EachBelow.{all_at, all_of}

follows_le : (a b : ℕ) → follows a b ≡ true → a ≤ b
follows_le a b h = grind arith

follows_one : (a b : ℕ) → follows a b ≡ true → b ≤ a + 1
follows_one a b h = grind arith

follows_of : (a b : ℕ) → a ≤ b → b ≤ a + 1 → follows a b ≡ true
follows_of a b le one = grind arith

pub classes_of : (classes : List ℕ) → length classes ≡ 256 → are_classes classes ≡ true → AreClasses classes
unfolding are_classes
classes_of classes len h =
    let first : Bool = slice_index classes 0 == 0 in
    let next : ℕ → Bool = λ b. follows (slice_index classes b) (slice_index classes (b + 1)) in
    let parts = and_parts first (list_all next (range_with_len 0 255)) h in
    record {
      count = len;
      first = eqb-true _ _ parts.0;
      rises = λ b lt. follows_le _ _ (all_at 255 next b parts.1 lt);
      by_one = λ b lt. follows_one _ _ (all_at 255 next b parts.1 lt);
    }

pub classes_pass : (classes : List ℕ) → AreClasses classes → are_classes classes ≡ true
unfolding are_classes
classes_pass classes are =
    let next : ℕ → Bool = λ b. follows (slice_index classes b) (slice_index classes (b + 1)) in
    and_from (slice_index classes 0 == 0) (list_all next (range_with_len 0 255)) (eq-eqb _ _ are.first)
    (all_of 255 next (λ b lt. follows_of _ _ (are.rises b lt) (are.by_one b lt)))

-- a value is there exactly where a test passes
pub tells : {A : Type 0} {P : Type 0} (test : Bool) (o : Option A) → (IsSome o ↔ P) → (P → test ≡ true)
    → (test ≡ true → P) → is_some o ≡ test
tells true None there pass holds = there.1 (holds refl)
tells true (Some x) there pass holds = refl
tells false None there pass holds = refl
tells false (Some x) there pass holds = sym (pass (there.0 refl))
