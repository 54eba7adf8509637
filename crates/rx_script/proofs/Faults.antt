-- Steps that may fail, taken apart.
use Rattle.rx_spec.proofs.Prelude.{◌≡◌, Bool, true, false, cond, Option, Some, None, Result, Ok, Err, refl, ℕ}
use Rattle.rx_script.specs.declared.fault.BadKind.{BadKind}
use Rattle.rx_script.specs.Faults.{Fault, refused, needed, ◌>>=◌}

-- the value of a step that did not fail
pub bind_ok : {A B : Type 0} (r : Result A Fault) (f : A → Result B Fault) (y : B) → (r >>= f) ≡ Ok y
    → (x : A) × (r ≡ Ok x) × (f x ≡ Ok y)
bind_ok (Ok x) f y e = (x, refl, e)
bind_ok (Err d) f y e = absurd cc

abbrev done : {A : Type 0} → A → Result A Fault
done x = Ok x

pub ok_is : {A : Type 0} (x y : A) → done x ≡ done y → x ≡ y
ok_is x y e = cc

-- what was needed, and the step after it
pub needed_then : {A B : Type 0} (n : ℕ) (kind : BadKind) (o : Option A) (f : A → Result B Fault) (y : B)
    → (needed n kind o >>= f) ≡ Ok y → (x : A) × (o ≡ Some x) × (f x ≡ Ok y)
needed_then n kind None f y e = absurd cc
needed_then n kind (Some x) f y e = (x, refl, e)

-- a test that was passed
pub passed : {A : Type 0} (b : Bool) (r : Result A Fault) (n : ℕ) (kind : BadKind) (y : A)
    → cond b r (refused n kind) ≡ Ok y → (b ≡ true) × (r ≡ Ok y)
passed true r n kind y e = (refl, e)
passed false r n kind y e = absurd cc
