-- The classes that end at some bytes, and the bytes of which each is the first.
use Rattle.rx_spec.proofs.Prelude.{rules, ℕ, zero, suc, ◌≡◌, ◌≢◌, ◌+◌, ◌-◌, ◌^◌, ◌<◌, ◌≤◌, refl, sym, ◌∙◌, ap, ap₂}
use Rattle.rx_spec.proofs.Prelude.{arith, inl, inr, add-one, Bool, true, false, ◌==◌, ◌||◌, not, cond, bit_or, List}
use Rattle.rx_spec.proofs.Prelude.{◌∷◌, length, get_or, replicate, common_steps, nat_tests, eqb_tells, get_or-replicate}
use Rattle.rx_spec.proofs.Prelude.{contains, only, between, class_by, parts, least_exponent}
use Rattle.rx_spec.specs.Classes.{begins_class}
use Rattle.rx_base.specs.ByteClasses.{AreClasses, ends_of, alphabet_len, bytes_from, representatives_from}
use Rattle.rx_base.specs.ByteClasses.{elements_from}
use Rattle.rx_base.proofs.ByteSets.{contains-add, parts-between}

-- ---- the class of a byte
class_by-suc : (ends : ℕ → Bool) (b : ℕ) → class_by ends (suc b) ≡ class_by ends b + cond (ends b) 1 0
unfolding class_by
class_by-suc ends b = refl

pub class_by-zero : (ends : ℕ → Bool) → class_by ends 0 ≡ 0
unfolding class_by
class_by-zero ends = refl

pub class_by-next : (ends : ℕ → Bool) (b : ℕ) → class_by ends (b + 1) ≡ class_by ends b + cond (ends b) 1 0
class_by-next ends b = rw add-one (class_by-suc ends b)

one_or_none : (b : Bool) → cond b 1 0 ≤ 1
one_or_none true = omega arith
one_or_none false = omega arith

pub class_by-le : (ends : ℕ → Bool) (b : ℕ) → class_by ends b ≤ b
class_by-le ends zero = omega (arith, class_by-zero ends)
class_by-le ends (suc b) = omega (arith, class_by-suc ends b, class_by-le ends b, one_or_none (ends b))

-- tests that agree on the bytes below one give it the same class
pub class_by-alike : (ends others : ℕ → Bool) (b : ℕ) → ((c : ℕ) → c < b → ends c ≡ others c)
    → class_by ends b ≡ class_by others b
class_by-alike ends others zero h = class_by-zero ends ∙ sym (class_by-zero others)
class_by-alike ends others (suc b) h =
    class_by-suc ends b
    ∙ ap₂ (λ (m : ℕ) (t : Bool). m + cond t 1 0)
    (class_by-alike ends others b (λ c below. h c (omega arith))) (h b (omega arith))
    ∙ sym (class_by-suc others b)

-- ---- the list of all classes
module _ (ends : ℕ → Bool) (classes : List ℕ) (by : (b : ℕ) → b < 256 → get_or classes b 0 ≡ class_by ends b) where
  pub AreClasses-class_by : length classes ≡ 256 → AreClasses classes
  AreClasses-class_by count = grind (arith, common_steps, class_by-zero, class_by-next)

-- such a list has the classes that end where it rises
pub ends_of-class : (classes : List ℕ) → AreClasses classes → (b : ℕ) → b < 256
    → get_or classes b 0 ≡ class_by (ends_of classes) b
ends_of-class classes are zero h = are.first ∙ sym (class_by-zero (ends_of classes))
ends_of-class classes are (suc b) h =
    let below : b < 255 = omega arith in
    let here : get_or classes b 0 ≡ class_by (ends_of classes) b = ends_of-class classes are b (omega arith) in
    let stepped : get_or classes (b + 1) 0 ≡ get_or classes b 0 + cond (ends_of classes b) 1 0
    = elim (eqb_tells (get_or classes b 0) (get_or classes (b + 1) 0)) [
      | inl same ↦ sym (ap (λ t. get_or classes b 0 + cond (not t) 1 0) same.0 ∙ added_none _ ∙ same.1)
      | inr other ↦
          rises_by_one _ _ (are.rises b below) (are.by_one b below) other.1
          ∙ sym (ap (λ t. get_or classes b 0 + cond (not t) 1 0) other.0)
    ]
    in
    rw add-one at (stepped ∙ ap (λ n. n + cond (ends_of classes b) 1 0) here ∙ sym (class_by-next (ends_of classes) b))
  where
    added_none : (n : ℕ) → n + 0 ≡ n
    added_none n = omega arith

    rises_by_one : (m n : ℕ) → m ≤ n → n ≤ m + 1 → m ≢ n → n ≡ m + 1
    rises_by_one m n low high ne = omega arith

-- ---- the bytes from one on that pass a test
pub bytes_from-pass : (test : ℕ → Bool) (at : ℕ) → at < 256 → test at ≡ true
    → bytes_from test at ≡ at ∷ bytes_from test (at + 1)
bytes_from-pass test at h e = grind (arith, common_steps)

pub bytes_from-skip : (test : ℕ → Bool) (at : ℕ) → at < 256 → test at ≡ false
    → bytes_from test at ≡ bytes_from test (at + 1)
bytes_from-skip test at h e = grind (arith, common_steps)

-- ---- one class of all bytes, and the classes of single bytes
abbrev pub zeros : List ℕ
zeros = replicate 256 0

pub zero_at : (b : ℕ) → b < 256 → get_or zeros b 0 ≡ 0
zero_at b h = get_or-replicate 256 b 0 0 h

pub AreClasses-zeros : AreClasses zeros
AreClasses-zeros = search (rules, zero_at)

-- ---- what the iterators have left, from one byte to the next
pub elements_from-pass : (classes : List ℕ) (class at : ℕ) → at < 256 → get_or classes at 0 ≡ class
    → elements_from classes class at ≡ at ∷ elements_from classes class (at + 1)
elements_from-pass classes class at h e = grind (arith, common_steps, bytes_from-pass)

pub elements_from-skip : (classes : List ℕ) (class at : ℕ) → at < 256 → get_or classes at 0 ≢ class
    → elements_from classes class at ≡ elements_from classes class (at + 1)
elements_from-skip classes class at h ne = grind (arith, common_steps, nat_tests, bytes_from-skip)

pub representatives_from-pass : (classes : List ℕ) (at : ℕ) → at < 256 → begins_class (ends_of classes) at ≡ true
    → representatives_from classes at ≡ at ∷ representatives_from classes (at + 1)
representatives_from-pass classes at h e = grind (arith, common_steps, bytes_from-pass)

pub representatives_from-skip : (classes : List ℕ) (at : ℕ) → at < 256 → begins_class (ends_of classes) at ≡ false
    → representatives_from classes at ≡ representatives_from classes (at + 1)
representatives_from-skip classes at h e = grind (arith, common_steps, bytes_from-skip)

-- ---- the bytes that end a class, once a range is told apart
module _ (old ends : ℕ) where
  pub ends-with_range : (first last b : ℕ) → first ≤ last → last < 256
      → contains ends b ≡ (contains old b || (b + 1 == first))
      → contains (bit_or ends (only last)) b ≡ (contains old b || parts (contains (between first last)) b (b + 1))
  ends-with_range first last b ordered fits before = grind (arith, common_steps, contains-add, parts-between)

-- ---- the least exponent
pub least_exponent-next : (len k more : ℕ) → 2 ^ k < len → 0 < more
    → least_exponent len k more ≡ least_exponent len (k + 1) (more - 1)
unfolding least_exponent
least_exponent-next len k zero h m = absurd (omega arith)
least_exponent-next len k (suc more) h m = grind (arith, common_steps, nat_tests)

pub least_exponent-here : (len k more : ℕ) → len ≤ 2 ^ k → least_exponent len k more ≡ k
unfolding least_exponent
least_exponent-here len k zero h = refl
least_exponent-here len k (suc more) h = grind (arith, common_steps, nat_tests)

pub alphabet_len-le : (classes : List ℕ) → AreClasses classes → alphabet_len classes ≤ 257
alphabet_len-le classes are = grind (arith, common_steps, ends_of-class, class_by-le)

-- ---- classes that are read byte by byte
pub record RiseBelow (classes : List ℕ) (n : ℕ) : Type 0 where
  pub rises : (b : ℕ) → b < n → get_or classes b 0 ≤ get_or classes (b + 1) 0
  pub by_one : (b : ℕ) → b < n → get_or classes (b + 1) 0 ≤ get_or classes b 0 + 1

pub AreClasses-risen : (classes : List ℕ) (n : ℕ) → length classes ≡ 256 → get_or classes 0 0 ≡ 0
    → RiseBelow classes n → 255 ≤ n → AreClasses classes
AreClasses-risen classes n count first rise all = record {
  count = count;
  first = first;
  rises = λ b h. rise.rises b (omega arith);
  by_one = λ b h. rise.by_one b (omega arith);
}
