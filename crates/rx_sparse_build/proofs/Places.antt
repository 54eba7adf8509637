-- Tests of all elements by their places, and numbers that are multiples of another.
use Rattle.rx_spec.proofs.Prelude.{common_steps, ◌≡◌, ℕ, zero, suc, ◌*◌, ◌/◌, ◌%◌, ◌<◌, ◌≤◌, Bool, true, false, ◌&&◌}
use Rattle.rx_spec.proofs.Prelude.{not, List, [], ◌∷◌, length, get_or, refl, arith, list_all, cases_lt, and_from}
use Rattle.rx_spec.proofs.Prelude.{mul-le, IsTable, Table}
use Rattle.std.proofs.Math.Nat.{div-mul-le_self}
use Rattle.rx_dense.proofs.Rows.{quotient}

-- each element passes where each place has one that does
pub all_places : (p : ℕ → Bool) (xs : List ℕ) → ((k : ℕ) → k < length xs → p (get_or xs k 0) ≡ true)
    → list_all p xs ≡ true
all_places p [] h = refl
all_places p (x ∷ xs) h =
    and_from (p x) (list_all p xs) (h 0 (omega arith)) (all_places p xs (λ k lt. h (suc k) (omega (arith, lt))))

-- dead and quit lead to dead
pub low_dead : {t : Table} → IsTable t → (row unit : ℕ) → row < 2 → unit < 257 → t.machine.next row unit ≡ 0
low_dead is zero unit low u = is.dead_stays unit u
low_dead is (suc zero) unit low u = is.quit_ends unit u
low_dead is (suc (suc row)) unit low u = absurd (omega (arith, low))

pub not_both : (a b : Bool) → (a ≡ true → b ≡ true → ⊥) → not (a && b) ≡ true
not_both true true h = absurd (h refl refl)
not_both true false h = refl
not_both false b h = refl

-- the row of a place
pub row_below : (k n s : ℕ) → n % s ≡ 0 → k < n → k / s < n / s
row_below k n s whole lt = grind (arith, common_steps, cases_lt, quotient, mul-le, div-mul-le_self)

-- rows lie as their ids do
pub rows_rise : (x y s : ℕ) → x * s < y * s → x ≤ y
rows_rise x y s lt = grind (arith, common_steps, cases_lt, mul-le)
