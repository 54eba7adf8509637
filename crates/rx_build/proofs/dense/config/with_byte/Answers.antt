use Rattle.rx_spec.proofs.Prelude.{arith, ◌≡◌, ◌||◌, Bool, true, false, if◌then◌else◌, refl, sym, common_steps}
use Rattle.rx_base.proofs.ByteSets.{contains-add}
use Rattle.rx_build.proofs.dense.config.with_byte.Goals as goal

put_in : (before here choice : Bool) → choice ≡ true → (before || here) ≡ (if here then choice else before)
put_in true true choice e = sym e
put_in true false choice e = refl
put_in false true choice e = sym e
put_in false false choice e = refl

pub returns-then-yes : goal.returns-then-yes
returns-then-yes c = grind (arith, common_steps, contains-add, put_in)
