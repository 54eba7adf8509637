-- Laws of byte classes: their numbers, columns, least bytes and strides, and that what is built doesn't tell
-- bytes of one class apart.
use Rattle.std.specs.Prelude.{◌≡◌, ℕ, ◌+◌, ◌^◌, ◌<◌, ◌≤◌, ◌⊎◌, ◌↔◌, Bool, false, length, slice_index}
use Rattle.std.specs.List.Sorted.{IsStrictlyIncreasing}
use Rattle.rx_spec.specs.Bytes.{eoi}
use Rattle.rx_spec.specs.Nfas.{Nfa}
use Rattle.rx_spec.specs.Classes.{class_by, alphabet_by, column_by, representatives, ends_class, stride2_of}
use Rattle.rx_spec.specs.Builds.{Build, Node, next_node}

-- Classes are numbered from 0 on, in the order of bytes, and none is left out.
abbrev pub ClassesBegin : Type 0
ClassesBegin = (ends : ℕ → Bool) → class_by ends 0 ≡ 0

abbrev pub ClassesRise : Type 0
ClassesRise = (ends : ℕ → Bool) (b : ℕ)
    → (class_by ends (b + 1) ≡ class_by ends b) ⊎ (class_by ends (b + 1) ≡ class_by ends b + 1)

-- They are as coarse as can be: two bytes are of one class exactly where none ends from the lower up to the other.
abbrev pub ClassesAreCoarse : Type 0
ClassesAreCoarse = (ends : ℕ → Bool) (a b : ℕ) → a ≤ b
    → class_by ends a ≡ class_by ends b ↔ ((x : ℕ) → a ≤ x → x < b → ends x ≡ false)

-- without byte classes each byte is its own
abbrev pub ClassesOfAll : Type 0
ClassesOfAll = (nfa : Nfa) (quit b : ℕ) → class_by (ends_class nfa quit false) b ≡ b

-- Each unit has a column below the alphabet, each column a unit, and the end mark the last one.
abbrev pub ColumnsAreBelow : Type 0
ColumnsAreBelow = (ends : ℕ → Bool) (unit : ℕ) → unit < 257 → column_by ends unit < alphabet_by ends

abbrev pub ColumnsAreUsed : Type 0
ColumnsAreUsed = (ends : ℕ → Bool) (column : ℕ) → column < alphabet_by ends
    → (unit : ℕ) × (unit < 257) × (column_by ends unit ≡ column)

abbrev pub LastColumn : Type 0
LastColumn = (ends : ℕ → Bool) → column_by ends eoi + 1 ≡ alphabet_by ends

-- The representatives are the least bytes of the classes: one for each class, in their order, and no byte below
-- it is of its class.
abbrev pub RepresentativesRise : Type 0
RepresentativesRise = (ends : ℕ → Bool) → IsStrictlyIncreasing (representatives ends)

abbrev pub RepresentativesCounted : Type 0
RepresentativesCounted = (ends : ℕ → Bool) → length (representatives ends) + 1 ≡ alphabet_by ends

abbrev pub RepresentativeOfClass : Type 0
RepresentativeOfClass = (ends : ℕ → Bool) (k : ℕ) → k < length (representatives ends)
    → class_by ends (slice_index (representatives ends) k) ≡ k

abbrev pub RepresentativeIsLeast : Type 0
RepresentativeIsLeast = (ends : ℕ → Bool) (k b : ℕ) → k < length (representatives ends) → class_by ends b ≡ k
    → slice_index (representatives ends) k ≤ b

-- The stride holds the alphabet, no lower power of two does, and its exponent is 1 to 9.
abbrev pub StrideHolds : Type 0
StrideHolds = (ends : ℕ → Bool) → alphabet_by ends ≤ 2 ^ stride2_of (alphabet_by ends)

abbrev pub StrideIsLeast : Type 0
StrideIsLeast = (ends : ℕ → Bool) (k : ℕ) → alphabet_by ends ≤ 2 ^ k → stride2_of (alphabet_by ends) ≤ k

abbrev pub StrideIsWithin : Type 0
StrideIsWithin = (ends : ℕ → Bool)
    → (1 ≤ stride2_of (alphabet_by ends)) × (stride2_of (alphabet_by ends) ≤ 9)

-- Bytes of one class lead every node of the powerset machine to one node, and so do units of one column: that is
-- why a table needs no more columns.
abbrev pub ClassesLead : Type 0
ClassesLead = (b : Build) (byte_classes : Bool) (node : Node) (x y : ℕ) → x < 256 → y < 256
    → class_by (ends_class b.nfa b.quit byte_classes) x ≡ class_by (ends_class b.nfa b.quit byte_classes) y
    → next_node b node x ≡ next_node b node y

abbrev pub ColumnsLead : Type 0
ColumnsLead = (b : Build) (byte_classes : Bool) (node : Node) (x y : ℕ) → x < 257 → y < 257
    → column_by (ends_class b.nfa b.quit byte_classes) x ≡ column_by (ends_class b.nfa b.quit byte_classes) y
    → next_node b node x ≡ next_node b node y
