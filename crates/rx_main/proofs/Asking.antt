-- A script that is read with its input asks something.
use Rattle.rx_spec.proofs.Prelude.{true, List, [], ℕ, Option, Some, None, ◌∷◌, Query}
use Rattle.rx_script.specs.Grammar.{Spelled, Spells, SpellsAsked}
use Rattle.rx_main.specs.Scripts.{IsAsking}

by_lines : (asked : Option Query) (lines : List (List (List ℕ))) → SpellsAsked true asked lines → IsAsking asked
by_lines None lines spelled = spelled
by_lines (Some q) [] spelled = absurd spelled
by_lines (Some q) (input ∷ []) spelled = absurd spelled
by_lines (Some q) (input ∷ (hay ∷ [])) spelled = record { within = spelled.within; ordered = spelled.ordered }
by_lines (Some q) (input ∷ (hay ∷ (more ∷ lines))) spelled = absurd spelled

pub asks : (text : List ℕ) (script : Spelled) → Spells true text script → IsAsking script.asked
asks text script spelled = by_lines script.asked spelled.asked_lines spelled.asked
