use Rattle.rx_spec.proofs.Prelude.{◌≡◌, ◌++◌, map, string_bytes, take}
use Rattle.rx_base.specs.Unit.{unit_number}
use Rattle.rx_main.specs.EqualLines.{word_text}
use Rattle.rx_main.proofs.equal.push_word.Given as goal

-- the text of the units before this one
abbrev pub invariant-units : goal.invariant-units
invariant-units l = string_bytes l.text ≡ string_bytes l.fn.text ++ word_text (map unit_number (take l.i l.fn.word))
