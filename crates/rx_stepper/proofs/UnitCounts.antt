-- There are as many units as columns.
use Rattle.rx_spec.proofs.Prelude.{common_steps, ◌≡◌, ℕ, zero, suc, ◌+◌, ◌≤◌, ◌==◌, not, if◌then◌else◌, List, [], ◌∷◌}
use Rattle.rx_spec.proofs.Prelude.{length, ap, sym, ◌∙◌, arith, length-append, slice_index, eoi, class_by}
use Rattle.rx_spec.proofs.Prelude.{representatives}
use Rattle.rx_stepper.proofs.Prelude.{units_of}
use Rattle.rx_base.specs.ByteClasses.{AreClasses, ends_of, alphabet_len}
use Rattle.rx_base.proofs.Classes.{class_by-le}
use Rattle.rx_lemmas.proofs.ClassNumbers.{class_suc, class_zero, representatives_counted}

risen : (a b : ℕ) → a ≤ b → b ≤ a + 1 → a + (if not (a == b) then 1 else 0) ≡ b
risen a b low high = grind (arith, common_steps)

-- each class is the number of those that end below
class_number : (classes : List ℕ) → AreClasses classes → (b : ℕ) → b ≤ 255
    → class_by (ends_of classes) b ≡ slice_index classes b
class_number classes are zero h = class_zero (ends_of classes) ∙ sym are.first
class_number classes are (suc b) h =
    let one : b + 1 ≡ suc b = omega arith in
    let low = are.rises b (omega arith) in
    let high = are.by_one b (omega arith) in
    class_suc (ends_of classes) b
    ∙ ap (λ n. n + (if ends_of classes b then 1 else 0)) (class_number classes are b (omega arith))
    ∙ risen (slice_index classes b) (slice_index classes (b + 1)) low high
    ∙ ap (slice_index classes) one

pub units_counted : (classes : List ℕ) → AreClasses classes → length (units_of classes) ≡ alphabet_len classes
units_counted classes are =
    let ends = ends_of classes in
    let last = class_number classes are 255 (omega arith) in
    omega (arith, length-append (representatives ends) (eoi ∷ []), representatives_counted ends)

pub units_few : (classes : List ℕ) → length (units_of classes) ≤ 257
units_few classes =
    let ends = ends_of classes in
    omega (arith, length-append (representatives ends) (eoi ∷ []), representatives_counted ends, class_by-le ends 255)
