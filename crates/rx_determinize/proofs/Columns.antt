-- The classes of bytes that the code makes are those of the definitions.
use Rattle.rx_spec.proofs.Prelude.{◌≡◌, ℕ, ◌+◌, ◌<◌, ◌||◌, Bool, true, false, List, length, slice_index, refl, sym, ◌∙◌}
use Rattle.rx_spec.proofs.Prelude.{arith, fill_by_all, contains, class_by, ends_class, parts, Nfa}
use Rattle.rx_determinize.proofs.Prelude.{class_by-alike, classes_of, rows_part}
use Rattle.std.proofs.Math.Bool.{or_comm}
use Rattle.rx_lemmas.proofs.ClassNumbers.{class_of_all}

pub classes_are : (nfa : Nfa) (quit : ℕ) (byte_classes : Bool) (classes : List ℕ) → length classes ≡ 256
    → ((b : ℕ) → b < 256 → slice_index classes b ≡ class_by (ends_class nfa quit byte_classes) b)
    → classes ≡ classes_of nfa quit byte_classes
classes_are nfa quit byte_classes classes count each =
    fill_by_all (class_by (ends_class nfa quit byte_classes)) classes 256 0 count each

-- each byte has its own
pub own_classes : (nfa : Nfa) (quit : ℕ) (classes : List ℕ) → length classes ≡ 256
    → ((b : ℕ) → b < 256 → slice_index classes b ≡ b) → classes ≡ classes_of nfa quit false
own_classes nfa quit classes count each =
    classes_are nfa quit false classes count
    (λ b h. each b h ∙ sym (class_of_all (ends_class nfa quit false) (λ x. refl) b))

-- classes end where a row or the quit set tells a byte from the next one
pub shared_classes : (nfa : Nfa) (quit set : ℕ) (classes : List ℕ) → length classes ≡ 256
    → ((b : ℕ) → b < 255
    → contains set b ≡ (rows_part nfa.line_terminator nfa.rows b || parts (contains quit) b (b + 1)))
    → ((b : ℕ) → b < 256 → slice_index classes b ≡ class_by (contains set) b) → classes ≡ classes_of nfa quit true
shared_classes nfa quit set classes count ends each =
    classes_are nfa quit true classes count
    (λ b h.
    each b h
    ∙ class_by-alike (contains set) (ends_class nfa quit true) b
    (λ c low.
    ends c (omega arith)
    ∙ or_comm (rows_part nfa.line_terminator nfa.rows c) (parts (contains quit) c (c + 1))))
