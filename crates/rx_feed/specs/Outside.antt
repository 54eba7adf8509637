-- What is read and written, if it is known.
use Rattle.std.specs.Prelude.{ℕ, ◌≡◌, Option, List, Result, Ok, Err}
use Rattle.std.specs.Io.KnownBytes.{Appends}
use Rattle.rx_transfer.specs.Outside.{AppendsFront}
use Rattle.rx_transfer.specs.declared.reading.ReadFault.{ReadFault}
use Rattle.rx_feed.specs.declared.fault.Fault.{Fault}

-- what was written before and after
pub record Written : Type 0 where
  pub before : Option (List ℕ)
  pub after : Option (List ℕ)

-- A text was added, and then a front of the next.
pub record AppendsThenFront (before after : Option (List ℕ)) (text next : List ℕ) : Type 0 where
  pub between : Option (List ℕ)
  pub whole : Appends before between text
  pub front : AppendsFront between after next

-- A text was written, and the status is this one; or the sink failed before its end.
abbrev pub Writes : Option (List ℕ) → Option (List ℕ) → List ℕ → ℕ → Result ℕ Fault → Type 0
Writes before after text status (Ok told) = (told ≡ status) × Appends before after text
Writes before after text status (Err Fault.Sink) = AppendsFront before after text
Writes before after text status (Err fault) = ⊥

-- why the source couldn't be read
abbrev pub source_fault : ReadFault → Fault
source_fault ReadFault.Failed = Fault.Source
source_fault ReadFault.Memory = Fault.Memory
