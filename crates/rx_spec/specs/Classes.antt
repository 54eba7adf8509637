-- Byte classes: runs of bytes that nothing in an NFA tells apart, so that one column of a table serves
-- them all (the alphabet compression of lex, RE2 and regex-automata).
use Rattle.std.specs.Prelude.{ℕ, zero, suc, ◌+◌, ◌^◌, Bool, true, false, ◌==◌, ◌&&◌, ◌||◌, nat_le, if◌then◌else◌}
use Rattle.std.specs.Prelude.{bit_or, List, filter}
use Rattle.std.specs.List.{list_any, range_with_len}
use Rattle.rx_spec.specs.Bytes.{contains, between, is_word}
use Rattle.rx_spec.specs.Looks.{differ, is_unicode_word}
use Rattle.rx_spec.specs.Contexts.{facts_read, Facts}
use Rattle.rx_spec.specs.Rows.{Row}
use Rattle.rx_spec.specs.Nfas.{Nfa}

-- The number of a byte's class, by any test of the bytes that end a class: how many classes end below it.
-- The test is true of each byte where no classes are made.
unfoldable pub class_by : (ℕ → Bool) → ℕ → ℕ
class_by ends zero = 0
class_by ends (suc b) = class_by ends b + (if ends b then 1 else 0)

-- the classes and the end mark
abbrev pub alphabet_by : (ℕ → Bool) → ℕ
alphabet_by ends = class_by ends 255 + 2

-- the column of a unit: its class, and for the end mark the last one
abbrev pub column_by : (ℕ → Bool) → ℕ → ℕ
column_by ends unit = if unit == 256 then class_by ends 255 + 1 else class_by ends unit

-- the least byte of each class, in rising order
abbrev pub begins_class : (ℕ → Bool) → ℕ → Bool
begins_class ends zero = true
begins_class ends (suc b) = ends b

abbrev pub representatives : (ℕ → Bool) → List ℕ
representatives ends = filter (begins_class ends) (range_with_len 0 256)

-- ---- where the classes of an NFA end

-- whether a test tells two bytes apart
abbrev pub parts : (ℕ → Bool) → ℕ → ℕ → Bool
parts test a b = differ (test a) (test b)

-- whether facts of a byte tell two bytes apart, of those that are read
abbrev pub facts_part : ℕ → Facts → ℕ → ℕ → Bool
facts_part t read a b =
    (read.line_terminator && parts (λ x. x == t) a b) || (read.lf && parts (λ x. x == 10) a b)
    || (read.cr && parts (λ x. x == 13) a b) || (read.word && parts is_word a b)

abbrev pub row_parts : ℕ → ℕ → ℕ → Row → Bool
row_parts t a b (Row.Bytes set next) = parts (contains set) a b
row_parts t a b (Row.Look look next) = facts_part t (facts_read look) a b
row_parts t a b _ = false

-- whether a row or the quit set tells a byte and the next one apart
abbrev pub parts_next : Nfa → ℕ → ℕ → Bool
parts_next nfa quit b = parts (contains quit) b (b + 1) || list_any (row_parts nfa.line_terminator b (b + 1)) nfa.rows

-- which bytes end a class: those, or without byte classes all
abbrev pub ends_class : Nfa → ℕ → Bool → ℕ → Bool
ends_class nfa quit true b = parts_next nfa quit b
ends_class nfa quit false b = true

-- ---- the stride

-- The stride is the least power of two that holds the alphabet; its exponent is 1 to 9.
unfoldable pub least_exponent : ℕ → ℕ → ℕ → ℕ
least_exponent len k zero = k
least_exponent len k (suc more) = if nat_le len (2 ^ k) then k else least_exponent len (k + 1) more

abbrev pub stride2_of : ℕ → ℕ
stride2_of len = least_exponent len 0 9

-- ---- quit bytes

abbrev pub looks_for_unicode_word : Row → Bool
looks_for_unicode_word (Row.Look look next) = is_unicode_word look
looks_for_unicode_word _ = false

-- whether some row has a Unicode word assertion
abbrev pub has_unicode_word : Nfa → Bool
has_unicode_word nfa = list_any looks_for_unicode_word nfa.rows

-- The quit set in effect: the configured one, and every byte from 0x80 on where the heuristic is on
-- and a row has a Unicode word assertion.
abbrev pub quit_set : Nfa → ℕ → Bool → ℕ
quit_set nfa configured heuristic =
    if heuristic && has_unicode_word nfa then bit_or configured (between 128 255) else configured
