-- Each column is that of some unit.
use Rattle.rx_spec.proofs.Prelude.{◌≡◌, ◌≢◌, ℕ, zero, suc, ◌+◌, ◌<◌, ◌≤◌, List, slice_index, sym, subst, ⊎_elim, arith}
use Rattle.rx_spec.proofs.Prelude.{cases_eq, ne_eqb}
use Rattle.rx_order.proofs.Prelude.{AreClasses, Layout, alphabet_len, column}

-- each class up to that of a byte is that of some byte
pub class_used : (classes : List ℕ) → AreClasses classes → (b class : ℕ) → b < 256 → class ≤ slice_index classes b
    → (byte : ℕ) × (byte < 256) × (slice_index classes byte ≡ class)
class_used classes are zero class h l = (0, omega arith, omega (arith, are.first))
class_used classes are (suc b) class h l =
    ⊎_elim (λ (e : class ≡ slice_index classes (suc b)). (suc b, h, sym e))
    (λ (ne : class ≡ slice_index classes (suc b) → ⊥).
    let next : slice_index classes (suc b) ≤ slice_index classes b + 1 =
    subst (λ n. slice_index classes n ≤ slice_index classes b + 1) (omega arith) (are.by_one b (omega arith)) in
    class_used classes are b class (omega arith) (omega arith))
    (cases_eq class (slice_index classes (suc b)))

pub column_used : (l : Layout) → AreClasses l.classes → (at : ℕ) → at < alphabet_len l.classes
    → (unit : ℕ) × (unit < 257) × (column l unit ≡ at)
column_used l are at h =
    ⊎_elim (λ (e : at ≡ slice_index l.classes 255 + 1). (256, omega arith, sym e))
    (λ (ne : at ≡ slice_index l.classes 255 + 1 → ⊥).
    let byte = class_used l.classes are 255 at (omega arith) (omega arith) in
    let low = byte.1 in
    let other : byte.0 ≢ 256 = (λ e. omega (arith, low, e)) in
    (byte.0, omega (arith, low), rw (ne_eqb byte.0 256 other) byte.2))
    (cases_eq at (slice_index l.classes 255 + 1))
