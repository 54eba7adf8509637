-- What reading a script gives, in the words of the grammar.
use Rattle.rx_spec.proofs.Prelude.{ℕ, Bool, List, Result, Ok, Err, subst, IfOk}
use Rattle.rx_script.specs.declared.fault.ScriptFault.{ScriptFault}
use Rattle.rx_script.specs.declared.script.Script.{Script}
use Rattle.rx_script.specs.Grammar.{Spelled, Spells}
use Rattle.rx_script.specs.Faults.{Fault, Gives}
use Rattle.rx_script.specs.Reading.{script_of}
use Rattle.rx_script.specs.Script as view
use Rattle.rx_script.proofs.ScriptSpelled.{script_spelled}
use Rattle.rx_script.proofs.ScriptRead.{script_read}

pub is_spelled : (w : Bool) (text : List ℕ) (r : Result Script ScriptFault)
    → Gives view.script_read r (script_of w text) → IfOk r (λ s. Spells w text (view.script_read s))
is_spelled w text (Ok s) given = script_spelled w text (view.script_read s) given
is_spelled w text (Err e) given = tt

pub is_read : (w : Bool) (text : List ℕ) (r : Result Script ScriptFault) (s : Spelled) → Spells w text s
    → Gives view.script_read r (script_of w text) → Gives view.script_read r (Ok s)
is_read w text r s sp given =
    subst (λ (x : Result Spelled Fault). Gives view.script_read r x) (script_read w text s sp) given
