-- Why an image can't be read, and what it means to read or write bytes.
use Rattle.std.specs.Prelude.{◌≡◌, ℕ, ◌<◌, List, ◌++◌, length, drop, Result, Ok, Err}
use Rattle.rx_wire.specs.declared.error.DeserializeErrorKind.{DeserializeErrorKind}
use Rattle.rx_wire.specs.declared.error.DeserializeErrorKind.TheVariants as kinds

-- The first test that fails, without the texts that name it. Reading itself never wants memory; a call may.
pub data Kind : Type 0 where
  Generic : Kind
  BufferTooSmall : Kind
  VersionMismatch : (expected found : ℕ) → Kind
  EndianMismatch : (expected found : ℕ) → Kind
  LabelMismatch : (expected : List ℕ) → Kind
  PatternID : (attempted : ℕ) → Kind
  StateID : (attempted : ℕ) → Kind
  Memory : Kind

abbrev pub kind_of : DeserializeErrorKind → Kind
kind_of (kinds.Generic msg) = Kind.Generic
kind_of (kinds.BufferTooSmall what) = Kind.BufferTooSmall
kind_of (kinds.VersionMismatch expected found) = Kind.VersionMismatch expected found
kind_of (kinds.EndianMismatch expected found) = Kind.EndianMismatch expected found
kind_of (kinds.LabelMismatch expected) = Kind.LabelMismatch expected.now
kind_of (kinds.PatternID err what) = Kind.PatternID err.attempted
kind_of (kinds.StateID err what) = Kind.StateID err.attempted
kind_of kinds.Memory = Kind.Memory

-- ---- reading

-- A part of an image: what it says and the bytes after it, or the first test that fails.
abbrev pub Part : Type 0 → Type 0
Part A = List ℕ → Result (A × List ℕ) Kind

-- one reading after another
infixl 10 ◌>>=◌
abbrev pub ◌>>=◌ : {A B : Type 0} → Result A Kind → (A → Result B Kind) → Result B Kind
(Ok x) >>= f = f x
(Err kind) >>= f = Err kind

-- What a call that takes no memory gives, seen by view, is what reading gives: an error says which test fails first.
abbrev pub GivesExactly : {X Y : Type 0} → (X → Y) → Result X Kind → Result Y Kind → Type 0
GivesExactly view (Ok x) read = read ≡ Ok (view x)
GivesExactly view (Err kind) read = read ≡ Err kind

-- where a call takes memory, an error may also say that memory ran out
abbrev pub FailsBy : {Y : Type 0} → Kind → Result Y Kind → Type 0
FailsBy Kind.Memory read = Unit {0}
FailsBy kind read = read ≡ Err kind

abbrev pub Gives : {X Y : Type 0} → (X → Y) → Result X Kind → Result Y Kind → Type 0
Gives view (Ok x) read = read ≡ Ok (view x)
Gives view (Err kind) read = FailsBy kind read

-- a text is read as a value, whatever follows it
abbrev pub Reads : {A : Type 0} → (List ℕ → Result (A × List ℕ) Kind) → List ℕ → A → Type 0
Reads part text x = (rest : List ℕ) → part (text ++ rest) ≡ Ok (x, rest)

-- ---- writing

-- A text stands at the front of a destination, and the bytes after it are as before; or the destination is shorter
-- than the text, and as before.
abbrev pub Writes : {E : Type 0} → List ℕ → List ℕ → List ℕ → Result ℕ E → Type 0
Writes text old new (Ok n) = (n ≡ length text) × (new ≡ text ++ drop n old)
Writes text old new (Err e) = (length old < length text) × (new ≡ old)
