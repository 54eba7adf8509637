-- A reduced table is least.
use Rattle.rx_spec.proofs.Prelude.{common_steps, ◌≡◌, ℕ, suc, zero, ◌<◌, ◌≤◌, List, [], ◌∷◌, ◌++◌, sym, ap, ◌∙◌, ⊎_elim}
use Rattle.rx_spec.proofs.Prelude.{arith, cases_eq, Contains, Anchored, Machine, Label, IsWord, built_modes, power}
use Rattle.rx_spec.proofs.Prelude.{Table, IsTable, row_after, label_after, SameLabels, IsReachedRow}
use Rattle.rx_spec.specs.Labels.{IsReduced, IsLeast}
use Rattle.rx_lemmas.proofs.SilentRows.{IsRow, zero_is_silent}
use Rattle.rx_lemmas.proofs.Words.{run-nil, run-cons, run-append, run-within, IsWord-head, IsWord-tail}
use Rattle.rx_lemmas.proofs.Words.{IsWord-append}
use Rattle.rx_meaning.specs.Least.{Leastness, ReducedIsLeast, LeastIsOne}
use Rattle.rx_meaning.proofs.Pigeonholes.{pigeons}

-- a row of one table and a row of another from which every word leads to equal labels
abbrev AreAlike : Table → Table → ℕ → ℕ → Type 0
AreAlike t u x y = (word : List ℕ) → IsWord word → label_after t.machine x word ≡ label_after u.machine y word

dead_alike : (t u : Table) → IsTable t → IsTable u → AreAlike t u 0 0
dead_alike t u is_t is_u word w = (zero_is_silent t is_t).plain word w ∙ sym ((zero_is_silent u is_u).plain word w)

quit_label : (t : Table) → IsTable t → label_after t.machine 1 [] ≡ Label.Quits
quit_label t is = ap t.machine.label (run-nil t.machine.next 1) ∙ is.quit_label

quit_later : (t : Table) → IsTable t → (unit : ℕ) (word : List ℕ) → IsWord (unit ∷ word)
    → label_after t.machine 1 (unit ∷ word) ≡ Label.Plain
quit_later t is unit word w =
    ap t.machine.label (run-cons t.machine.next 1 unit word)
    ∙ ap (λ row. label_after t.machine row word) (is.quit_ends unit (IsWord-head unit word w))
    ∙ (zero_is_silent t is).plain word (IsWord-tail unit word w)

quit_alike : (t u : Table) → IsTable t → IsTable u → AreAlike t u 1 1
quit_alike t u is_t is_u [] w = quit_label t is_t ∙ sym (quit_label u is_u)
quit_alike t u is_t is_u (unit ∷ word) w = quit_later t is_t unit word w ∙ sym (quit_later u is_u unit word w)

module _ (Starts : Anchored → Type 0) (t u : Table) (is_t : IsTable t) (is_u : IsTable u)
    (same : SameLabels Starts t.machine u.machine) (reduced : IsReduced Starts t) where
  -- the row to which the same word leads
  reached_alike : (row : ℕ) → IsReachedRow Starts t row → (y : ℕ) × (y < u.size) × AreAlike t u row y
  reached_alike row r = (
    row_after u r.mode r.start r.word,
    run-within u.machine.next (IsRow u) (λ row unit h v. is_u.nexts row unit h v) (u.machine.entry r.mode r.start)
        r.word (is_u.entries r.mode r.start) r.is_word,
    λ word w.
        ap (λ x. label_after t.machine x word) (sym r.leads)
        ∙ ap t.machine.label (sym (run-append t.machine.next (t.machine.entry r.mode r.start) r.word word))
        ∙ same r.mode r.begins r.start (r.word ++ word) (IsWord-append r.word word r.is_word w)
        ∙ ap u.machine.label (run-append u.machine.next (u.machine.entry r.mode r.start) r.word word),
  )

  partner : (row : ℕ) → row < t.size → (y : ℕ) × (y < u.size) × AreAlike t u row y
  partner zero l = let two = is_u.two in (0, omega arith, dead_alike t u is_t is_u)
  partner (suc zero) l = let two = is_u.two in (1, omega arith, quit_alike t u is_t is_u)
  partner (suc (suc row)) l = reached_alike (suc (suc row)) (reduced.reached (suc (suc row)) (omega arith) l)

  alone : (x z y : ℕ) → x < t.size → z < t.size → AreAlike t u x y → AreAlike t u z y → x ≡ z
  alone x z y lx lz hx hz =
      ⊎_elim
      (λ (e : x ≡ z). e)
      (λ (ne : x ≡ z → ⊥). let told = reduced.apart x z lx lz ne in
      absurd (told.differ (hx told.word told.is_word ∙ sym (hz told.word told.is_word))))
      (cases_eq x z)

  pub least : t.size ≤ u.size
  least = pigeons (AreAlike t u) u.size t.size alone partner

pub leastness_holds : Leastness
leastness_holds modes t u is_t reduced is_u same = least (Contains modes) t u is_t is_u same reduced

-- for any machine, and any starts
pub reduced_least : {R : Type 0} (Starts : Anchored → Type 0) (m : Machine R) (t : Table) → IsTable t
    → IsReduced Starts t → SameLabels Starts t.machine m → IsLeast Starts m t.size
reduced_least Starts m t is_t reduced gives = grind (arith, common_steps, least)

pub one_least : {R : Type 0} (Starts : Anchored → Type 0) (m : Machine R) (j k : ℕ) → IsLeast Starts m j
    → IsLeast Starts m k → j ≡ k
one_least Starts m j k p q = grind (arith, common_steps)

pub reduced_is_least : ReducedIsLeast
reduced_is_least b t is_t reduced gives = reduced_least (Contains (built_modes b)) (power b) t is_t reduced gives

pub least_is_one_holds : LeastIsOne
least_is_one_holds b j k p q = one_least (Contains (built_modes b)) (power b) j k p q
