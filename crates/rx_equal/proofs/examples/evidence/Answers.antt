use Rattle.rx_spec.proofs.Prelude.{ℕ, zero, suc, ◌≡◌, List, [], ◌∷◌, refl, ap, sym, ◌∙◌, arith, Contains, Label}
use Rattle.rx_lemmas.proofs.Firsts.{Contains-nil}
use Rattle.rx_equal.specs.Evidence.{RowPair}
use Rattle.rx_equal.specs.Examples.{at_edge}
use Rattle.rx_equal.proofs.FourRows.{three_closed, three_pairs}
use Rattle.rx_equal.proofs.Meets.{evidence_closed}
use Rattle.rx_equal.proofs.examples.evidence.Goals as goal

abbrev two_pairs : List RowPair
two_pairs = record { row = 2; other = 2 } ∷ record { row = 3; other = 3 } ∷ []

abbrev dead : RowPair
dead = record { row = 0; other = 0 }

is_live : (row : ℕ) (p : RowPair) → p ≡ dead → p.row ≡ suc row → ⊥
is_live row p e f = let same : 0 ≡ suc row = sym (ap (λ (q : RowPair). q.row) e) ∙ f in omega arith

no_dead : Contains two_pairs dead → ⊥
no_dead (zero, h, e) = is_live 1 (record { row = 2; other = 2 }) e refl
no_dead (suc zero, h, e) = is_live 2 (record { row = 3; other = 3 }) e refl
no_dead (suc (suc k), h, e) = omega arith

first_is_no_second : Label.Matches (0 ∷ []) ≡ Label.Matches (1 ∷ []) → ⊥
first_is_no_second e = cc

pub returns : goal.returns
returns c = record {
  whole =
      record { pairs = three_pairs 3 3; named = refl; closed = three_closed 2 3 3 (0 ∷ []) (0 ∷ []) refl refl refl };
  no_start = λ evidence.
      Contains-nil (record { row = 2; other = 2 })
      ((evidence_closed {pairs = []} refl evidence).starts at_edge (record { mode = tt; beside = tt }));
  no_next = λ evidence.
      no_dead ((evidence_closed {pairs = two_pairs} refl evidence).nexts (record { row = 2; other = 2 }) 256
      (0, omega arith, refl) (omega arith));
  no_pair = λ evidence. cc evidence.named;
  other_pattern = λ evidence.
      first_is_no_second ((evidence_closed {pairs = three_pairs 3 3} refl evidence).labels
      (record { row = 3; other = 3 }) (1, omega arith, refl));
}
