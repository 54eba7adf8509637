-- Words of units, and the rows to which they lead.
use Rattle.rx_spec.proofs.Prelude.{[], ◌≡◌, ℕ, ◌<◌, List, ◌∷◌, ◌++◌, refl, ap, sym, ◌∙◌, subst, ⊎_elim, take, get_or}
use Rattle.rx_spec.proofs.Prelude.{Contains-append_cases, Contains-get_or, All-contains, All-take, Contains, IsWord}
use Rattle.rx_spec.proofs.Prelude.{run}
use Rattle.rx_lemmas.proofs.Firsts.{Contains-here, Contains-there, Contains-nil, Contains-cases}

pub IsWord-nil : IsWord []
IsWord-nil unit c = absurd (Contains-nil unit c)

pub IsWord-cons : (unit : ℕ) (word : List ℕ) → unit < 257 → IsWord word → IsWord (unit ∷ word)
IsWord-cons unit word h w v c =
    ⊎_elim (λ (e : unit ≡ v). subst (λ x. x < 257) e h) (λ (d : Contains word v). w v d) (Contains-cases unit word v c)

pub IsWord-head : (unit : ℕ) (word : List ℕ) → IsWord (unit ∷ word) → unit < 257
IsWord-head unit word w = w unit (Contains-here unit word)

pub IsWord-tail : (unit : ℕ) (word : List ℕ) → IsWord (unit ∷ word) → IsWord word
IsWord-tail unit word w v c = w v (Contains-there unit word v c)

pub IsWord-append : (v w : List ℕ) → IsWord v → IsWord w → IsWord (v ++ w)
IsWord-append v w hv hw unit c =
    ⊎_elim (λ (d : Contains v unit). hv unit d) (λ (d : Contains w unit). hw unit d) (Contains-append_cases v w unit c)

pub IsWord-take : (n : ℕ) (word : List ℕ) → IsWord word → IsWord (take n word)
IsWord-take n word w unit c =
    All-contains (λ u. u < 257) (take n word) unit
    (All-take (λ u. u < 257) n word (λ k d h. w (get_or word k d) (Contains-get_or word k d h))) c

module _ {R : Type 0} (next : R → ℕ → R) where
  pub run-nil : (row : R) → run next row [] ≡ row
  unfolding run
  run-nil row = refl

  pub run-cons : (row : R) (unit : ℕ) (word : List ℕ) → run next row (unit ∷ word) ≡ run next (next row unit) word
  unfolding run
  run-cons row unit word = refl

  pub run-append : (row : R) (v w : List ℕ) → run next row (v ++ w) ≡ run next (run next row v) w
  run-append row [] w = ap (λ r. run next r w) (sym (run-nil row))
  run-append row (unit ∷ v) w =
      run-cons row unit (v ++ w) ∙ run-append (next row unit) v w
      ∙ ap (λ r. run next r w) (sym (run-cons row unit v))

  -- words stay among rows that units don't leave
  pub run-within : (In : R → Type 0) → ((row : R) (unit : ℕ) → In row → unit < 257 → In (next row unit))
      → (row : R) (word : List ℕ) → In row → IsWord word → In (run next row word)
  run-within In closed row [] i w = subst In (sym (run-nil row)) i
  run-within In closed row (unit ∷ word) i w =
      subst In (sym (run-cons row unit word))
      (run-within In closed (next row unit) word (closed row unit i (IsWord-head unit word w))
      (IsWord-tail unit word w))
