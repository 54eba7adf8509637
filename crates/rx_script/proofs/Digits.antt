-- Values of hexadecimal digits: what a table of them has, and which bytes two of them say.
use Rattle.rx_spec.proofs.Prelude.{common_steps, ◌≡◌, ℕ, zero, suc, ◌+◌, ◌<◌, Bool, true, ◌&&◌, eqb, List, [], ◌∷◌}
use Rattle.rx_spec.proofs.Prelude.{length, get_or, ap, ◌∙◌, arith, and_parts}
use Rattle.rx_script.specs.Tokens.{digit_of, value_of}

-- ---- a table

-- whether a list has the values of the codes from one on
abbrev pub has_values : List ℕ → ℕ → Bool
has_values [] c = true
has_values (v ∷ vs) c = eqb v (value_of (digit_of c)) && has_values vs (suc c)

value_there : (vs : List ℕ) (c i : ℕ) → has_values vs c ≡ true → i < length vs
    → get_or vs i 0 ≡ value_of (digit_of (c + i))
value_there [] c i has lt = absurd (omega arith)
value_there (v ∷ vs) c zero has lt = grind (arith, common_steps)
value_there (v ∷ vs) c (suc i) has lt =
    let parts = and_parts (eqb v (value_of (digit_of c))) (has_values vs (suc c)) has in
    let same : suc c + i ≡ c + suc i = omega arith in
    value_there vs (suc c) i parts.1 (omega arith) ∙ ap (λ (n : ℕ). value_of (digit_of n)) same

pub value_at : (vs : List ℕ) (c : ℕ) → has_values vs 0 ≡ true → c < length vs → get_or vs c 0 ≡ value_of (digit_of c)
value_at vs c has lt =
    let same : 0 + c ≡ c = omega arith in
    value_there vs 0 c has lt ∙ ap (λ (n : ℕ). value_of (digit_of n)) same
