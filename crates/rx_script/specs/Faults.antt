-- The first fault of a script, and steps that may fail.
use Rattle.std.specs.Prelude.{◌≡◌, ℕ, List, codes, Option, Some, None, Result, Ok, Err}
use Rattle.rx_script.specs.declared.fault.BadKind.{BadKind}
use Rattle.rx_script.specs.declared.fault.ScriptFault.{ScriptFault}
use Rattle.rx_script.specs.declared.fault.ScriptFault.TheVariants as faults

pub record Fault : Type 0 where
  pub line : ℕ
  pub kind : BadKind

-- how a kind of fault is written
abbrev pub kind_name : BadKind → List ℕ
kind_name BadKind.Words = codes "words"
kind_name BadKind.Order = codes "order"
kind_name BadKind.Plan = codes "plan"
kind_name BadKind.Expr = codes "expr"
kind_name BadKind.BadRange = codes "bad-range"
kind_name BadKind.EmptyBody = codes "empty-body"
kind_name BadKind.TooDeep = codes "too-deep"
kind_name BadKind.Input = codes "input"
kind_name BadKind.Hay = codes "hay"
kind_name BadKind.Span = codes "span"

-- a line is refused
abbrev pub refused : {A : Type 0} → ℕ → BadKind → Result A Fault
refused line kind = Err (record { line = line; kind = kind })

-- what is there, or the line is refused
abbrev pub needed : {A : Type 0} → ℕ → BadKind → Option A → Result A Fault
needed line kind None = refused line kind
needed line kind (Some x) = Ok x

infixl 10 ◌>>=◌
abbrev pub ◌>>=◌ : {A B : Type 0} → Result A Fault → (A → Result B Fault) → Result B Fault
(Ok x) >>= f = f x
(Err e) >>= f = Err e

-- What a function returned, seen by view, is what reading gives, unless memory ran out.
abbrev pub Fails : {Y : Type 0} → ScriptFault → Result Y Fault → Type 0
Fails faults.Memory read = Unit {0}
Fails (faults.Bad line kind) read = read ≡ refused line kind

abbrev pub Gives : {X Y : Type 0} → (X → Y) → Result X ScriptFault → Result Y Fault → Type 0
Gives view (Ok x) read = read ≡ Ok (view x)
Gives view (Err e) read = Fails e read
