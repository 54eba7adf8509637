-- Rows as closures need them, without the bytes that they read.
use Rattle.std.specs.Prelude.{ℕ, ◌≡◌, Bool, true, false, List, slice_get, unwrap_or}
use Rattle.rx_spec.specs.Rows.{Row}
use Rattle.rx_spec.specs.Contexts.{holds_read}
use Rattle.rx_spec.specs.States as states
use Rattle.rx_spec.specs.States.{Standing, Tested, row_at, is_look_row, is_match_row, pattern_of}
use Rattle.rx_spec.specs.Closures.{own_by, branches_by}
use Rattle.rx_stepper.specs.declared.thin_row.ThinRow.{ThinRow}
use Rattle.rx_stepper.specs.declared.closures.Passing.{Passing}

abbrev pub row_of_thin : ThinRow → Row
row_of_thin ThinRow.Bytes = Row.Bytes 0 0
row_of_thin (ThinRow.Split first second) = Row.Split first second
row_of_thin (ThinRow.Look look next) = Row.Look look next
row_of_thin (ThinRow.Match pattern) = Row.Match pattern
row_of_thin ThinRow.Fail = Row.Fail

-- a closure lists the row itself and nothing behind it, whatever becomes of assertions
abbrev pub is_end : ThinRow → Bool
is_end ThinRow.Bytes = true
is_end (ThinRow.Split first second) = false
is_end (ThinRow.Look look next) = false
is_end (ThinRow.Match pattern) = true
is_end ThinRow.Fail = false

-- the same as a row, but for what that reads
pub record IsThin (thin : Row) (row : Row) : Type 0 where
  pub own : (pass : states.Passing) (q : ℕ) → own_by pass q thin ≡ own_by pass q row
  pub branches : (pass : states.Passing) → branches_by pass thin ≡ branches_by pass row
  pub is_look : is_look_row thin ≡ is_look_row row
  pub is_match : is_match_row thin ≡ is_match_row row
  pub pattern : pattern_of thin ≡ pattern_of row

-- the thin row of a number; there is none past the end
abbrev pub thin_at : List ThinRow → ℕ → ThinRow
thin_at thin q = unwrap_or (slice_get thin q) ThinRow.Fail

abbrev pub AreThin : List ThinRow → List Row → Type 0
AreThin thin rows = (q : ℕ) → IsThin (row_of_thin (thin_at thin q)) (row_at rows q)

-- what becomes of an assertion that is met
abbrev pub passing_of : Passing → states.Passing
passing_of Passing.Standing = Standing
passing_of (Passing.Tested last next direction) = Tested (λ look. holds_read direction look last next)
