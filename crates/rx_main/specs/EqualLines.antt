-- The lines of the command `equal`.
use Rattle.std.specs.Prelude.{ℕ, ◌≡◌, ◌/◌, ◌%◌, nat_lt, if◌then◌else◌, Option, Some, None}
use Rattle.std.specs.Prelude.{List, [], ◌∷◌, ◌++◌, codes}
use Rattle.std.specs.List.{flat_map}
use Rattle.std.specs.Fmt.{decimal}
use Rattle.rx_spec.specs.Bytes.{eoi}
use Rattle.rx_spec.specs.Queries.{Anchored}
use Rattle.rx_base.specs.StartConfig.{StartConfig}
use Rattle.rx_transfer.specs.Words.{hex_code, mode_name, newline}
use Rattle.rx_main.specs.Lines.{Reply}

-- how many pairs of rows are reached
abbrev pub equal_reply : ℕ → Reply
equal_reply count = record { text = codes "equal " ++ (decimal count ++ newline); status = 0 }

-- a byte in two digits
abbrev pub hex_text : ℕ → List ℕ
hex_text byte = hex_code (byte / 16) ∷ (hex_code (byte % 16) ∷ [])

-- the byte beside a start
abbrev pub beside_text : Option ℕ → List ℕ
beside_text None = codes "-"
beside_text (Some byte) = hex_text byte

-- a byte, or the end of input
abbrev pub unit_text : ℕ → List ℕ
unit_text unit = if nat_lt unit eoi then hex_text unit else codes "eoi"

abbrev pub word_text : List ℕ → List ℕ
word_text [] = codes "-"
word_text (unit ∷ units) = unit_text unit ++ flat_map (λ next. codes "," ++ unit_text next) units

-- where both tables begin, and what they read from there
abbrev pub differ_line : StartConfig → List ℕ → List ℕ
differ_line place word =
    codes "differ "
    ++ (mode_name place.mode ++ (codes " " ++ (beside_text place.beside ++ (codes " " ++ (word_text word ++ newline)))))

abbrev pub differ_reply : StartConfig → List ℕ → Reply
differ_reply place word = record { text = differ_line place word; status = 1 }

-- a table has more patterns than tables that are compared
abbrev pub wide_reply : Reply
wide_reply = record { text = codes "wide" ++ newline; status = 2 }

-- ---- examples

-- the edge of a text and nothing read; and a byte beside, with two bytes and the end of input read
abbrev pub DifferLines : Type 0
DifferLines =
    (differ_line (record { beside = None; mode = Anchored.No }) [] ≡ codes "differ no - -" ++ newline)
    × (differ_line (record { beside = Some 97; mode = Anchored.Pattern 7 }) (175 ∷ (10 ∷ (eoi ∷ [])))
    ≡ codes "differ p7 61 af,0a,eoi" ++ newline)
