-- A set of assertions with one bit changed, how many it has, and the assertions of Unicode words in it.
use Rattle.rx_spec.proofs.Prelude.{common_steps, [], ℕ, zero, suc, ◌≡◌, ◌≢◌, ◌+◌, ◌-◌, ◌*◌, ◌^◌, ◌/◌, ◌%◌, ◌<◌, refl}
use Rattle.rx_spec.proofs.Prelude.{sym, ◌∙◌, ap, subst, arith, List, ◌∷◌, get_or, bit_or, bit_and, Bool, true, false}
use Rattle.rx_spec.proofs.Prelude.{◌==◌, w32, cond, bit_at, or_lt, one_shl, sum_by-cons}
use Rattle.std.specs.Int.Count.{ones}
use Rattle.std.specs.List.{count_by}
use Rattle.std.proofs.lemmas.Nat.{ones_cat, pow_below, shr-shr, shr_split}
use Rattle.std.proofs.lemmas.Nat.Bits.{bit_at_set_same, bit_at_set_other, bit_at_clear_same, bit_at_clear_other}
use Rattle.rx_spec.specs.declared.Look.{Look}
use Rattle.rx_base.specs.LookSet.{holds_look, look_number, all_looks}

-- ---- the places of assertions
look_at : (look : Look) → get_or all_looks (look_number look) Look.Start ≡ look
look_at Look.Start = refl
look_at _ = refl

same_look : (a b : Look) → look_number a ≡ look_number b → a ≡ b
same_look a b e = sym (look_at a) ∙ ap (λ n. get_or all_looks n Look.Start) e ∙ look_at b

number_below : (look : Look) → look_number look < 18
number_below Look.Start = omega arith
number_below _ = omega arith

number_fits : (look : Look) → look_number look < 32
number_fits look = omega (arith, number_below look)

other_number : (a b : Look) → a ≢ b → look_number a ≢ look_number b
other_number a b ne e = ne (same_look a b e)

-- ---- one bit changed
abbrev bit_of : ℕ → ℕ
bit_of k = 1 * 2 ^ k % 4294967296

pub insert-below : (set k : ℕ) (look : Look) → k ≡ look_number look → set < 2 ^ 18 → bit_or set (bit_of k) < 2 ^ 18
insert-below set k look e h =
    let small : k < 18 = omega (arith, number_below look) in
    or_lt 18 set (bit_of k) h (subst (λ n. n < 2 ^ 18) (sym (one_shl k 32 (omega arith))) (pow_below k 18 small))

pub insert-same : (set k : ℕ) (look : Look) → k ≡ look_number look → holds_look (bit_or set (bit_of k)) look ≡ true
insert-same set k look e =
    ap (λ n. bit_at (bit_or set (bit_of n)) (look_number look) == 1) e
    ∙ ap (λ n. n == 1) (bit_at_set_same w32 set (look_number look) (number_fits look))

pub insert-other : (set k : ℕ) (look other : Look) → k ≡ look_number look → other ≢ look
    → holds_look (bit_or set (bit_of k)) other ≡ holds_look set other
insert-other set k look other e ne =
    let differs = other_number other look ne in
    ap (λ n. bit_at (bit_or set (bit_of n)) (look_number other) == 1) e
    ∙ ap (λ n. n == 1) (bit_at_set_other w32 set (look_number look) (number_fits look) (look_number other) differs)

abbrev cleared : ℕ → ℕ → ℕ
cleared set k = bit_and set (2 ^ 32 - 1 - bit_of k)

pub remove-same : (set k : ℕ) (look : Look) → k ≡ look_number look → holds_look (cleared set k) look ≡ false
remove-same set k look e =
    ap (λ n. bit_at (cleared set n) (look_number look) == 1) e
    ∙ ap (λ n. n == 1) (bit_at_clear_same w32 set (look_number look) (number_fits look))

pub remove-other : (set k : ℕ) (look other : Look) → k ≡ look_number look → other ≢ look
    → holds_look (cleared set k) other ≡ holds_look set other
remove-other set k look other e ne =
    let n = look_number look in
    let m = look_number other in
    let differs = other_number other look ne in
    ap (λ n. bit_at (cleared set n) m == 1) e
    ∙ ap (λ n. n == 1) (bit_at_clear_other w32 set n (number_fits look) m (number_fits other) differs)

-- ---- how many
abbrev up : ℕ → ℕ → List ℕ
up i zero = []
up i (suc k) = i ∷ up (i + 1) k

abbrev held : ℕ → ℕ → Bool
held n i = bit_at n i == 1

ones-bit : (b : ℕ) → b < 2 → ones b ≡ b
unfolding ones
ones-bit zero h = refl
ones-bit (suc zero) h = refl
ones-bit (suc (suc b)) h = omega arith

ones-half : (m : ℕ) → ones m ≡ ones (m / 2) + m % 2
ones-half m =
    sym (ap ones (shr_split m 1)) ∙ ones_cat 1 (m / 2) (m % 2) (omega arith)
    ∙ ap (λ x. ones (m / 2) + x) (ones-bit (m % 2) (omega arith))

bit_is : (b : ℕ) → b < 2 → b ≡ cond (b == 1) 1 0
bit_is zero h = refl
bit_is (suc zero) h = refl
bit_is (suc (suc b)) h = omega arith

swapped : (a b c d : ℕ) → a ≡ b + c → c ≡ d → a ≡ d + b
swapped a b c d p q = omega arith

ones-up : (n k i : ℕ) → n / 2 ^ i < 2 ^ k → ones (n / 2 ^ i) ≡ count_by (held n) (up i k)
ones-up n zero i h = grind (arith, common_steps)
ones-up n (suc k) i h =
    let m = n / 2 ^ i in
    let first = cond (held n i) 1 0 in
    let next = ones-up n k (i + 1) (subst (λ x. x < 2 ^ k) (shr-shr n i 1) (halved m k h)) in
    swapped (ones m) (ones (m / 2)) (m % 2) first (ones-half m) (bit_is (m % 2) (omega arith))
    ∙ ap (λ x. first + x) (ap ones (shr-shr n i 1) ∙ next)
    ∙ sym (sum_by-cons (λ j. cond (held n j) 1 0) i (up (i + 1) k))
  where
    halved : (m k : ℕ) → m < 2 ^ suc k → m / 2 < 2 ^ k
    halved m k h = omega arith

pub len-ones : (set : ℕ) → set < 2 ^ 18 → ones set ≡ count_by (holds_look set) all_looks
len-ones set h = ap ones (whole set) ∙ ones-up set 18 0 (subst (λ m. m < 2 ^ 18) (whole set) h)
  where
    whole : (n : ℕ) → n ≡ n / 2 ^ 0
    whole n = omega arith

-- ---- the assertions of Unicode words
abbrev pub word_looks : List Look
word_looks =
    Look.WordUnicode ∷ Look.WordUnicodeNegate ∷ Look.WordStartUnicode ∷ Look.WordEndUnicode
    ∷ Look.WordStartHalfUnicode ∷ Look.WordEndHalfUnicode ∷ []

-- none of the first few is in the set
abbrev pub NoneOfFirst : ℕ → ℕ → Type 0
NoneOfFirst set n = (k : ℕ) → k < n → holds_look set (get_or word_looks k Look.WordUnicode) ≡ false
