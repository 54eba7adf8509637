-- Tests, and what stands in lists.
use Rattle.rx_spec.proofs.Prelude.{common_steps, ℕ, ◌≡◌, ◌+◌, ◌<◌, ◌≤◌, Bool, true, false, not, Option, Some, None}
use Rattle.rx_spec.proofs.Prelude.{List, map, refl, ap, length, sym, ◌∙◌, subst, arith, ◌↔◌, IsTrue, slice_get}
use Rattle.rx_spec.proofs.Prelude.{Contains, option_map, slice_get_within, get_or_from_slice_get, slice_get-get_or}
use Rattle.rx_spec.proofs.Prelude.{slice_get-map, same_Some}

pub not_both : (b : Bool) → IsTrue (not b) → IsTrue b → ⊥
not_both true e h = absurd (cc)
not_both false e h = absurd (cc)

pub not_intro : (b : Bool) → (IsTrue b → ⊥) → IsTrue (not b)
not_intro true h = absurd (h refl)
not_intro false h = refl

false_both : (b : Bool) → b ≡ false → IsTrue b → ⊥
false_both b e h = absurd (cc)

-- a test is false, and so is what would make it true
pub false_by : {P Q : Type 0} {b : Bool} → b ≡ false → (IsTrue b ↔ Q) → (P → Q) → IsTrue false ↔ P
false_by {b = b} e tests from = (λ t. absurd (cc), λ p. absurd (false_both b e (tests.1 (from p))))

pub from_not : (b added : Bool) → ((IsTrue b → ⊥) → IsTrue added) → added ≡ false → IsTrue b
from_not true added h e = refl
from_not false added h e = absurd (false_both added e (h (λ (t : false ≡ true). absurd (cc))))

pub map_get : {X Y : Type 0} (f : X → Y) (xs : List X) (i : ℕ) {x : X} → slice_get xs i ≡ Some x
    → slice_get (map f xs) i ≡ Some (f x)
map_get f xs i e = slice_get-map f xs i ∙ ap (option_map f) e

pub contains_get : {X : Type 0} (xs : List X) (i : ℕ) (x : X) → slice_get xs i ≡ Some x → Contains xs x
contains_get xs i x e = (i, slice_get_within xs i x e, get_or_from_slice_get xs i x x e)

pub get_contained : {X : Type 0} (xs : List X) (x : X) (c : Contains xs x) → slice_get xs c.0 ≡ Some x
get_contained xs x c = slice_get-get_or xs c.0 x c.1 ∙ ap (λ y. Some y) c.2

-- what a mapped list contains comes from one of its items
pub record ComesFrom {X Y : Type 0} (f : X → Y) (xs : List X) (y : Y) : Type 0 where
  pub place : ℕ
  pub item : X
  pub there : slice_get xs place ≡ Some item
  pub is : f item ≡ y

by_item : {X Y : Type 0} (f : X → Y) (xs : List X) (y : Y) (i : ℕ) (o : Option X) → slice_get xs i ≡ o
    → option_map f o ≡ Some y → ComesFrom f xs y
by_item f xs y i (Some x) there e = record { place = i; item = x; there = there; is = same_Some (f x) y e }
by_item f xs y i None there e = absurd (cc)

pub map_contained : {X Y : Type 0} (f : X → Y) (xs : List X) (y : Y) → Contains (map f xs) y → ComesFrom f xs y
map_contained f xs y c =
    by_item f xs y c.0 (slice_get xs c.0) refl (sym (slice_get-map f xs c.0) ∙ get_contained (map f xs) y c)

pub below_more : (P : ℕ → Type 0) (n : ℕ) → ((k : ℕ) → k < n → P k) → P n → (k : ℕ) → k < n + 1 → P k
below_more P n below here k h = grind (arith, common_steps)

-- what holds of the item at a place holds of each item there
pub got : {X : Type 0} (P : X → Type 0) {o : Option X} {x : X} → o ≡ Some x → P x → (y : X) → o ≡ Some y → P y
got P {o} {x} there h y e = subst P (same_Some x y (sym there ∙ e)) h

-- the items below a place
abbrev pub EachBelow : {X : Type 0} → (X → Type 0) → List X → ℕ → Type 0
EachBelow {X} P xs n = (k : ℕ) → k < n → (x : X) → slice_get xs k ≡ Some x → P x

pub each_more : {X : Type 0} (P : X → Type 0) (xs : List X) (n : ℕ) {x : X} → EachBelow P xs n
    → slice_get xs n ≡ Some x → P x → EachBelow P xs (n + 1)
each_more {X} P xs n below there h = grind (arith, common_steps)

pub each_contained : {X : Type 0} (P : X → Type 0) (xs : List X) {n : ℕ} → EachBelow P xs n → length xs ≤ n → (x : X)
    → Contains xs x → P x
each_contained P xs below past x c = below c.0 (let h = c.1 in omega arith) x (get_contained xs x c)
