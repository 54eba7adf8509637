-- Tokens of short texts by a table of eleven rows, worked by hand. Pattern 0 is `aa`, pattern 1 one or more `a`,
-- pattern 2 a line feed. It quits at `z`.
use Rattle.std.specs.Prelude.{ℕ, ◌≡◌, ◌==◌, ◌||◌, false, if◌then◌else◌, None, [], ◌∷◌, ◌++◌, codes}
use Rattle.rx_spec.specs.Contexts.{start_of_byte}
use Rattle.rx_spec.specs.Machines.{Label}
use Rattle.rx_spec.specs.Tables.{Table}
use Rattle.rx_spec.specs.declared.StartKind.{StartKind}
use Rattle.rx_scan.specs.Tokens.{tokens}
use Rattle.rx_scan.specs.declared.token.ScanEnd.{ScanEnd}
use Rattle.rx_scan.specs.declared.token.Token.{Token}

-- Row 2 is the start, rows 3, 4, 5 and 9 have read one `a`, two, three and more, and row 6 a line feed. A row tells
-- what matched before its last byte, so from these every other byte leads to a row that tells it: 7, 8 or 10.
abbrev pub next_of : ℕ → ℕ → ℕ
next_of row unit =
    if row == 2 then (if unit == 97 then 3 else (if unit == 10 then 6 else (if unit == 122 then 1 else 0)))
    else (if unit == 122 then 1
    else (if row == 3 then (if unit == 97 then 4 else 7)
    else (if row == 4 then (if unit == 97 then 5 else 8)
    else (if row == 5 || row == 9 then (if unit == 97 then 9 else 7) else (if row == 6 then 10 else 0)))))

-- no order is asked of the patterns of a row
abbrev pub label_of : ℕ → Label
label_of row =
    if row == 1 then Label.Quits
    else (if row == 4 || row == 7 || row == 9 then Label.Matches (1 ∷ [])
    else (if row == 5 || row == 8 then Label.Matches (1 ∷ (0 ∷ []))
    else (if row == 10 then Label.Matches (2 ∷ []) else Label.Plain)))

abbrev pub letters : Table
letters = record {
  size = 11;
  machine = record {
    entry = λ mode start. 2;
    next = next_of;
    label = label_of;
    is_dead = λ row. row == 0;
  };
  settings =
      record { start_kind = StartKind.Both; pattern_starts = None; start_of_byte = start_of_byte 10; quit = 0 };
  has_empty = false;
  is_utf8 = false;
  is_always_start_anchored = false;
  pattern_len = 3;
  is_accelerated = λ row. false;
  needles = λ row. [];
  is_start = λ row. false;
  is_special = λ row. false;
  universal_unanchored = None;
  universal_anchored = None;
}

abbrev pub token : ℕ → ℕ → ℕ → ℕ → ℕ → Token
token pattern start end line column =
    record { pattern = pattern; span = record { start = start; end = end }; line = line; column = column }

-- The longest match is the token, whatever ends before it. Of two that are as long the lower pattern has it, and a
-- token after a line feed stands in the next line.
abbrev pub LongestThenLowest : Type 0
LongestThenLowest =
    tokens letters (codes "aaa" ++ (10 ∷ codes "aa"))
    ≡ record {
      tokens = token 1 0 3 1 1 ∷ (token 2 3 4 1 4 ∷ (token 0 4 6 2 1 ∷ []));
      end = ScanEnd.Done;
    }

-- where no token begins, the last one stands
abbrev pub StuckBehind : Type 0
StuckBehind = tokens letters (codes "a!") ≡ record { tokens = token 1 0 1 1 1 ∷ []; end = ScanEnd.Stuck 1 }

-- no text, no token
abbrev pub NothingLeft : Type 0
NothingLeft = tokens letters [] ≡ record { tokens = []; end = ScanEnd.Done }

-- a quit byte that the walk meets takes the token before it too
abbrev pub QuitTakesAll : Type 0
QuitTakesAll =
    tokens letters (10 ∷ codes "aaz") ≡ record { tokens = token 2 0 1 1 1 ∷ []; end = ScanEnd.Quit 122 3 }
