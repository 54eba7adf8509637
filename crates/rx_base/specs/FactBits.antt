-- Facts as a number with a bit for each of them.
use Rattle.std.specs.Prelude.{ℕ, ◌+◌, ◌*◌, ◌/◌, ◌%◌, ◌==◌, Bool, if◌then◌else◌}
use Rattle.rx_spec.specs.Contexts.{Facts}

abbrev pub bit : Bool → ℕ
bit fact = if fact then 1 else 0

abbrev pub bits_of : Facts → ℕ
bits_of f = bit f.text + 2 * bit f.line_terminator + 4 * bit f.lf + 8 * bit f.cr + 16 * bit f.word

-- the facts whose bits a number has
abbrev pub facts_with : ℕ → Facts
facts_with bits = record {
  text = bits % 2 == 1;
  line_terminator = bits / 2 % 2 == 1;
  lf = bits / 4 % 2 == 1;
  cr = bits / 8 % 2 == 1;
  word = bits / 16 % 2 == 1;
}
