-- Lists of lists that are all empty.
use Rattle.rx_spec.proofs.Prelude.{common_steps, ◌≡◌, ◌≢◌, ℕ, zero, suc, ◌+◌, ◌<◌, List, [], ◌∷◌, ◌++◌, length, map}
use Rattle.rx_spec.proofs.Prelude.{get_or, set, take, drop, refl, ap, sym, ◌∙◌, arith, ◌==◌, Bool, true, map-set}
use Rattle.rx_spec.proofs.Prelude.{get_or-map, flat_map}
use Rattle.rx_stepper.proofs.Prelude.{list_at}

-- one more that is empty
pub empty_set : {X : Type 0} (f : X → List ℕ) (vs : List X) (i : ℕ) (y : X) → f y ≡ []
    → ((k : ℕ) → k < i → get_or (map f vs) k [] ≡ []) → (k : ℕ) → k < i + 1 → get_or (map f (set vs i y)) k [] ≡ []
empty_set f [] i y e h k lt = refl
empty_set f (v ∷ vs) zero y e h zero lt = e
empty_set f (v ∷ vs) zero y e h (suc k) lt = absurd (omega arith)
empty_set f (v ∷ vs) (suc i) y e h zero lt = h zero (omega arith)
empty_set f (v ∷ vs) (suc i) y e h (suc k) lt = empty_set f vs i y e (λ j k. h (suc j) (omega arith)) k (omega arith)

-- ---- one list is another

module _ {X : Type 0} (f : X → List ℕ) (vs : List X) (v : ℕ) (y : X) where
  pub set_here : v < length vs → list_at (map f (set vs v y)) v ≡ f y
  set_here lt = grind (arith, common_steps, map-set)

  pub set_other : (place : ℕ) → place ≢ v → list_at (map f (set vs v y)) place ≡ list_at (map f vs) place
  set_other place other = grind (arith, common_steps, map-set)

  pub list_there : v < length vs → y ≡ get_or vs v y → list_at (map f vs) v ≡ f y
  list_there lt e = get_or-map f vs v y [] lt ∙ ap f (sym e)

-- a list that is found empty
pub empty_there : {X : Type 0} (f : X → List ℕ) (vs : List X) (v : ℕ) (y : X) {n : ℕ} {empty : Bool}
    → v < length vs → y ≡ get_or vs v y → n ≡ length (f y) → empty ≡ (n == 0) → empty ≡ true
    → list_at (map f vs) v ≡ []
empty_there f vs v y {n} lt e len is found = grind (arith, common_steps)

-- a list that is written back whole
pub written_back : {X : Type 0} (new old : List X) (n : ℕ) → length new ≡ length old → n ≡ length old
    → take n (new ++ drop (length new) old) ≡ new
written_back new old n len all = grind (arith, common_steps)

-- what was added to one of its lists
pub written_more : {X : Type 0} (f : X → List ℕ) (new : List X) {given old : List X} {n : ℕ} (leads : ℕ → List ℕ)
    {going cut : List ℕ} (place : ℕ) → given ≡ old → length new ≡ length given → n ≡ length old → going ≡ cut
    → list_at (map f new) place ≡ list_at (map f given) place ++ flat_map leads going
    → list_at (map f (take n (new ++ drop (length new) old))) place ≡ list_at (map f old) place ++ flat_map leads cut
written_more f new {given} {old} {n} leads place same len all e more = grind (arith, common_steps)
