-- States of the code are equal, and of one rank, exactly where their parts are equal.
use Rattle.rx_spec.proofs.Prelude.{arith, ◌≡◌, ℕ, true, List, ap, sym, ◌∙◌, common_steps, and_parts, nat_cmp, is_eq}
use Rattle.rx_spec.proofs.Prelude.{Facts, State}
use Rattle.std.proofs.Common.{Equal}
use Rattle.std.proofs.lemmas.Cmp.{tied_itself, nat_list_cmp_total}
use Rattle.std.specs.Cmp.{tied_then}
use Rattle.std.specs.Cmp.Lexicographic.{slice_cmp, same_text, texts_ties}
use Rattle.std.specs.Ordering.{ordering_then}
use Rattle.std.specs.declared.cmp.Ordering.{Ordering}
use Rattle.rx_powerset.specs.PowerState.{state_of}
use Rattle.rx_powerset.specs.Ranks.{facts_rank, rank}
use Rattle.rx_powerset.specs.declared.state.PowerState.{PowerState}
use Rattle.rx_powerset.specs.contracts.state.PowerStatePartialEq.TheImpl as the_eq
use Rattle.rx_powerset.specs.contracts.state.PowerStateOrd.TheImpl as the_ord
use Rattle.rx_powerset.specs.contracts.state.PowerStateOrd.TheImpl.Laws as the_laws

-- ---- what compares as equal

then_tied : (a b : Ordering) → is_eq (ordering_then a b) ≡ true → (is_eq a ≡ true) × (is_eq b ≡ true)
then_tied a b h = and_parts (is_eq a) (is_eq b) (tied_then a b ∙ h)

list_tied : (xs ys : List ℕ) → is_eq (slice_cmp nat_cmp xs ys) ≡ true → xs ≡ ys
list_tied xs ys h = same_text xs ys (sym (texts_ties xs ys ∙ h))

facts_tied : (x y : Facts) → is_eq (facts_rank x y) ≡ true → x ≡ y
facts_tied x y h = grind (arith, common_steps, then_tied)

-- states of one rank are equal
rank_tied : (s t : State) → is_eq (rank s t) ≡ true → s ≡ t
rank_tied s t h =
    let a = then_tied (slice_cmp nat_cmp s.rows t.rows) _ h in
    let b = then_tied (facts_rank s.context t.context) (slice_cmp nat_cmp s.label t.label) a.1 in
    λ i. record {
      rows = list_tied s.rows t.rows a.0 i;
      context = facts_tied s.context t.context b.0 i;
      label = list_tied s.label t.label b.1 i;
    }

-- ---- what is equal compares so

list_itself : (xs : List ℕ) → slice_cmp nat_cmp xs xs ≡ Equal
list_itself xs = tied_itself nat_list_cmp_total xs

rank_itself : (s : State) → rank s s ≡ Equal
rank_itself s = grind (arith, common_steps, list_itself)

same_rank : (s t : State) → s ≡ t → rank s t ≡ Equal
same_rank s t e = ap (λ (r : State). rank s r) (sym e) ∙ rank_itself s

-- ---- the same of the code's states, whose order is that of their parts

pub ranked_equal : (a b : PowerState) → is_eq (the_ord.cmp-value.it a b) ≡ true → state_of a ≡ state_of b
ranked_equal a b h = rank_tied (state_of a) (state_of b) h

pub equal_ranked : (a b : PowerState) → state_of a ≡ state_of b → the_ord.cmp-value.it a b ≡ Equal
equal_ranked a b e = same_rank (state_of a) (state_of b) e

pub told_equal : (a b : PowerState) → the_eq.eq-value.it a b ≡ true → state_of a ≡ state_of b
told_equal a b h = ranked_equal a b (sym (the_laws.matches_eq-law a b) ∙ h)

pub equal_told : (a b : PowerState) → state_of a ≡ state_of b → the_eq.eq-value.it a b ≡ true
equal_told a b e = the_laws.matches_eq-law a b ∙ ap is_eq (equal_ranked a b e)
