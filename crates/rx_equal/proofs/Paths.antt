-- The word from a place to a pair, read from the pair's link back to a start.
use Rattle.rx_spec.proofs.Prelude.{common_steps, ℕ, ◌≡◌, ◌+◌, ◌<◌, ◌≤◌, Some, List, [], ◌∷◌, ◌++◌, length, map, reverse}
use Rattle.rx_spec.proofs.Prelude.{ap, sym, ◌∙◌, subst, arith, length-append, length-reverse, slice_get, IsWord, run}
use Rattle.rx_spec.proofs.Prelude.{Table}
use Rattle.std.proofs.lemmas.List.{reverse-append}
use Rattle.rx_spec.specs.declared.Unit.{Unit}
use Rattle.rx_base.specs.Unit.{unit_number}
use Rattle.rx_lemmas.proofs.Words.{IsWord-cons, run-nil, run-cons}
use Rattle.rx_equal.specs.declared.evidence.Link.{Link}
use Rattle.rx_equal.specs.Evidence.{RowPair, next_pair, next_of}
use Rattle.rx_base.specs.StartConfig.{StartConfig}
use Rattle.rx_equal.specs.Walks.{AreLevels, Follows, IsPathTo, IsWalk}

-- the units so far, the last first, lead from a pair to a pair's successor
pub record LeadsOn (t u : Table) (links : List Link) (pairs : List RowPair) (at unit i : ℕ) (units : List Unit)
    : Type 0 where
  pub is_word : IsWord (map unit_number (reverse units))
  pub leads : (q : RowPair) → slice_get pairs i ≡ Some q → next_of t u (slice_get pairs at) unit
      ≡ Some (run (next_pair t u) q (map unit_number (reverse units)))
  pub short : (level : ℕ → ℕ) → AreLevels links level → length units + level i ≤ level at + 1

pub leads_first : (t u : Table) (links : List Link) (pairs : List RowPair) (at : ℕ) (unit : Unit) (units : List Unit)
    → unit_number unit < 257 → units ≡ unit ∷ [] → LeadsOn t u links pairs at (unit_number unit) at units
leads_first t u links pairs at unit units h e = grind (arith, common_steps, run-cons, run-nil)

turned : (units : List Unit) (v : Unit) → map unit_number (reverse (units ++ v ∷ [])) ≡ unit_number v ∷ map
    unit_number (reverse units)
turned units v = ap (map unit_number) (reverse-append units (v ∷ []))

length_push : (units : List Unit) (v : Unit) → length (units ++ v ∷ []) ≡ length units + 1
length_push units v = length-append units (v ∷ [])

module _ {t u : Table} {links : List Link} {pairs : List RowPair} (walk : IsWalk t u links pairs) (at unit : ℕ) where
  pub leads_back : (i from : ℕ) (v : Unit) (units more : List Unit) → LeadsOn t u links pairs at unit i units
      → more ≡ units ++ v ∷ [] → slice_get links i ≡ Some (Link.Next from v)
      → LeadsOn t u links pairs at unit from more
  leads_back i from v units more on e there =
      let n = unit_number v in
      let f = walk.follows i (Link.Next from v) there in
      subst (LeadsOn t u links pairs at unit from) (sym e) (record {
        is_word = subst IsWord (sym (turned units v)) (IsWord-cons n (map unit_number (reverse units)) f.1 on.is_word);
        leads = λ r here.
            on.leads (next_pair t u r n) (sym f.2 ∙ ap (λ o. next_of t u o n) here)
            ∙ ap (λ p. Some p)
            (sym (run-cons (next_pair t u) r n (map unit_number (reverse units)))
            ∙ ap (run (next_pair t u) r) (sym (turned units v)));
        short = λ level levels.
            (let s = on.short level levels in let b = levels i from v there in let l = length_push units v in
            omega arith);
      })

  -- what a start's link makes of it
  pub path_from : (i : ℕ) (place : StartConfig) (units word : List Unit) (q : RowPair)
      → LeadsOn t u links pairs at unit i units → word ≡ reverse units → slice_get pairs i ≡ Some q
      → Follows t u pairs i (Link.Start place)
      → IsPathTo t u links pairs at unit (record { place = place; word = word })
  path_from i place units word q on e there f = record {
    is_place = f.0;
    is_word = subst (λ w. IsWord (map unit_number w)) (sym e) on.is_word;
    start = q;
    begins = f.1 ∙ there;
    leads = on.leads q there ∙ ap (λ w. Some (run (next_pair t u) q (map unit_number w))) (sym e);
    short = λ level levels.
        (let s = on.short level levels in let l = length-reverse units in let k = ap length e in
        omega arith);
  }
