-- Making items into expressions, as a loop does: an item is taken from the end.
use Rattle.rx_spec.proofs.Prelude.{◌≡◌, ℕ, List, [], ◌∷◌, ◌++◌, Result, Ok, Err, refl, sym, ap, ◌∙◌, Expression}
use Rattle.rx_script.specs.declared.expression.Item.{Item}
use Rattle.rx_script.specs.declared.fault.ScriptFault.{ScriptFault}
use Rattle.rx_script.specs.Faults.{Fault, Fails, ◌>>=◌}
use Rattle.rx_script.specs.Items.{finished, made_onto}

abbrev pub Parts : Type 0
Parts = Result (List Expression) Fault

bind_assoc : {A B C : Type 0} (r : Result A Fault) (f : A → Result B Fault) (g : B → Result C Fault)
    → ((r >>= f) >>= g) ≡ (r >>= λ x. f x >>= g)
bind_assoc (Ok x) f g = refl
bind_assoc (Err e) f g = refl

pub bind_done : {A : Type 0} (r : Result A Fault) → (r >>= λ x. Ok x) ≡ r
bind_done (Ok x) = refl
bind_done (Err e) = refl

-- items one after the other: those at the end are made first
pub made_onto-append : (n : ℕ) (xs ys : List Item) (parts : List Expression)
    → made_onto n (xs ++ ys) parts ≡ (made_onto n ys parts >>= λ done. made_onto n xs done)
unfolding made_onto
made_onto-append n [] ys parts = sym (bind_done (made_onto n ys parts))
made_onto-append n (x ∷ xs) ys parts =
    ap (λ (r : Parts). r >>= λ done. finished n x done) (made_onto-append n xs ys parts)
    ∙ bind_assoc (made_onto n ys parts) (λ done. made_onto n xs done) (λ done. finished n x done)

-- what the items that are left make onto the finished parts is the whole
pub record MakesParts (n : ℕ) (items : List Item) (parts : List Expression) (whole : Parts) : Type 0 where
  pub same : made_onto n items parts ≡ whole

last_made : {n : ℕ} {items : List Item} {parts : List Expression} {whole : Parts} (rest : List Item) (item : Item)
    → MakesParts n items parts whole → items ≡ rest ++ item ∷ []
    → (finished n item parts >>= λ done. made_onto n rest done) ≡ whole
unfolding made_onto
last_made {n = n} {parts = parts} rest item so_far e =
    sym (made_onto-append n rest (item ∷ []) parts) ∙ ap (λ (xs : List Item). made_onto n xs parts) (sym e)
    ∙ so_far.same

pub parts_turn
    : {n : ℕ} {items : List Item} {parts done : List Expression} {whole : Parts} (rest : List Item) (item : Item)
    → MakesParts n items parts whole → items ≡ rest ++ item ∷ [] → finished n item parts ≡ Ok done
    → MakesParts n rest done whole
parts_turn {n = n} rest item so_far e f =
    record { same = ap (λ (r : Parts). r >>= λ done. made_onto n rest done) (sym f) ∙ last_made rest item so_far e }

pub parts_fail : {n : ℕ} {items : List Item} {parts : List Expression} {whole : Parts}
    → (rest : List Item) (item : Item) (fault : ScriptFault) → MakesParts n items parts whole
    → items ≡ rest ++ item ∷ [] → Fails fault (finished n item parts) → Fails fault whole
parts_fail rest item ScriptFault.Memory so_far e f = tt
parts_fail {n = n} rest item (ScriptFault.Bad line kind) so_far e f =
    sym (last_made rest item so_far e) ∙ ap (λ (r : Parts). r >>= λ done. made_onto n rest done) f

pub parts_end : {n : ℕ} {items : List Item} {parts : List Expression} {whole : Parts} → MakesParts n items parts whole
    → items ≡ [] → whole ≡ Ok parts
unfolding made_onto
parts_end {n = n} {parts = parts} so_far e = sym so_far.same ∙ ap (λ (xs : List Item). made_onto n xs parts) e
