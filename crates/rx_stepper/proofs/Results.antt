-- What holds where a call succeeds.
use Rattle.std.proofs.lemmas.Bool.{cases_Bool}
use Rattle.rx_spec.proofs.Prelude.{arith, common_steps, Bool, Result, IfOk, MatchBool, OnOk}

pub on_ok-map : {T E : Type 0} (r : Result T E) {P Q : Type 0} → (P → Q) → OnOk r P → OnOk r Q
on_ok-map r f p = grind (arith, common_steps)

pub on_ok-both : {T E : Type 0} (r : Result T E) {P Q R : Type 0} → (P → Q → R) → OnOk r P → OnOk r Q → OnOk r R
on_ok-both r f p q = grind (arith, common_steps)

pub if_ok-map : {T E : Type 0} (r : Result T E) {P Q : T → Type 0} → ((x : T) → P x → Q x) → IfOk r P → IfOk r Q
if_ok-map r f p = grind (arith, common_steps)

pub match_bool-map : (b : Bool) {P Q R S : Type 0} → (P → R) → (Q → S) → MatchBool b P Q → MatchBool b R S
match_bool-map b f g p = grind (arith, common_steps, cases_Bool)
