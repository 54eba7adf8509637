-- Maps of match rows: their keys, and lists of patterns that are inserted behind the last key.
use Rattle.rx_spec.proofs.Prelude.{common_steps, ◌≡◌, ◌<◌, ◌||◌, ◌==◌, ◌∙◌, ◌++◌, ℕ, Bool, true, false, List, [], ◌∷◌}
use Rattle.rx_spec.proofs.Prelude.{Option, Some, None, is_some, All, Contains, Vec, Global, map, get_or, refl, ap, sym}
use Rattle.rx_spec.proofs.Prelude.{subst, ⊎_elim, arith, list_any, is_at, is_eq, keys_of, values_of, nat_cmp, vec_items}
use Rattle.rx_spec.proofs.Prelude.{cases_eq, cases_lt, eq-eqb, false≢true, le-ltb, lt-ltb, ne_eqb, or-true, All-head}
use Rattle.rx_spec.proofs.Prelude.{All-tail, Contains-get_or}
use Rattle.std.specs.BTreeMap.{insert_entry}
use Rattle.std.specs.Map.{lookup}
use Rattle.std.proofs.lemmas.Bool.{cases_Bool}
use Rattle.std.proofs.lemmas.Map.Entries.{lookup_head, lookup_tail}
use Rattle.rx_lemmas.proofs.Firsts.{Contains-here, Contains-nil, Contains-there}

-- ---- numbers in a list

-- a test finds a member
pub any_contains : (x : ℕ) (xs : List ℕ) → list_any (λ y. y == x) xs ≡ true → Contains xs x
any_contains x [] e = absurd (false≢true e)
any_contains x (y ∷ ys) e =
    ⊎_elim
    (λ (here : y ≡ x). subst (λ z. Contains (y ∷ ys) z) here (Contains-here y ys))
    (λ (other : y ≡ x → ⊥).
    Contains-there y ys x (any_contains x ys (sym (ap (λ b. b || list_any (λ y. y == x) ys) (ne_eqb y x other)) ∙ e)))
    (cases_eq y x)

pub any_has : (x : ℕ) (xs : List ℕ) → Contains xs x → list_any (λ y. y == x) xs ≡ true
any_has x xs c = grind (arith, common_steps, Contains-nil, eq-eqb, or-true)

-- ---- keys

pub is_at_number : (k x : ℕ) → is_eq (nat_cmp k x) ≡ (x == k)
is_at_number k x = grind (arith, common_steps, lt-ltb, ne_eqb, le-ltb, eq-eqb, cases_eq, cases_lt)

-- a map has a key where some key is it
pub has_key : {X : Type 0} (k : ℕ) (entries : List (ℕ × X))
    → is_some (lookup (is_at (nat_cmp k)) entries) ≡ list_any (λ x. x == k) (keys_of entries)
has_key k [] = refl
has_key {X} k (e ∷ entries) = by_test (is_at (nat_cmp k) e.0) refl (has_key k entries)
  where
    by_test : (b : Bool) → is_at (nat_cmp k) e.0 ≡ b
        → is_some (lookup (is_at (nat_cmp k)) entries) ≡ list_any (λ x. x == k) (keys_of entries)
        → is_some (lookup (is_at (nat_cmp k)) (e ∷ entries)) ≡ list_any (λ x. x == k) (keys_of (e ∷ entries))
    by_test b t rest = grind (arith, common_steps, cases_Bool, lookup_head, is_at_number, e.0, lookup_tail)

-- each key is one that the map has
pub key_ids : {X : Type 0} (P : ℕ → Type 0) (entries : List (ℕ × X))
    → ((k : ℕ) (v : X) → lookup (is_at (nat_cmp k)) entries ≡ Some v → P k) → All P (keys_of entries)
key_ids {X} P entries each k d h = found (lookup (is_at (nat_cmp key)) entries) refl
  where
    key : ℕ
    key = get_or (keys_of entries) k d

    found : (o : Option X) → lookup (is_at (nat_cmp (get_or (keys_of entries) k d))) entries ≡ o
        → P (get_or (keys_of entries) k d)
    found (Some v) e = each (get_or (keys_of entries) k d) v e
    found None e =
        let none : list_any (λ x. x == get_or (keys_of entries) k d) (keys_of entries) ≡ false =
        sym (has_key (get_or (keys_of entries) k d) entries) ∙ ap (λ (o : Option X). is_some o) e in
        let some : list_any (λ x. x == get_or (keys_of entries) k d) (keys_of entries) ≡ true =
        any_has (get_or (keys_of entries) k d) (keys_of entries) (Contains-get_or (keys_of entries) k d h) in
        absurd (false≢true (sym none ∙ some))

-- ---- lists

pub inserted_last : {X : Type 0} (entries : List (ℕ × X)) (k : ℕ) (v : X) → All (λ key. key < k) (keys_of entries)
    → insert_entry nat_cmp entries k v ≡ entries ++ (k, v) ∷ []
inserted_last [] k v h = refl
inserted_last {X} (e ∷ entries) k v h =
    let low = All-head (λ key. key < k) e.0 (keys_of entries) h in
    let other : k ≡ e.0 → ⊥ = λ same. absurd (omega (arith, low, same)) in
    rw (le-ltb k e.0 (omega (arith, low)), ne_eqb k e.0 other)
    (ap (λ (rest : List (ℕ × X)). e ∷ rest)
    (inserted_last entries k v (All-tail (λ key. key < k) e.0 (keys_of entries) h)))

pub lists_last : (entries : List (ℕ × Vec ℕ Global)) (k : ℕ) (v : Vec ℕ Global)
    → map vec_items (values_of (entries ++ (k, v) ∷ [])) ≡ map vec_items (values_of entries) ++ v.items ∷ []
lists_last [] k v = refl
lists_last (e ∷ entries) k v = ap (λ (rest : List (List ℕ)). e.1.items ∷ rest) (lists_last entries k v)

pub keys_last : {X : Type 0} (entries : List (ℕ × X)) (k : ℕ) (v : X)
    → keys_of (entries ++ (k, v) ∷ []) ≡ keys_of entries ++ k ∷ []
keys_last [] k v = refl
keys_last (e ∷ entries) k v = ap (λ (rest : List ℕ). e.0 ∷ rest) (keys_last entries k v)
