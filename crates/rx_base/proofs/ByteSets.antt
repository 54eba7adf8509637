-- A set of bytes, a number of 256 bits, by its two halves of 128, and its bytes after a change.
use Rattle.rx_spec.proofs.Prelude.{rules, ℕ, ◌≡◌, ◌≢◌, ◌+◌, ◌-◌, ◌*◌, ◌^◌, ◌/◌, ◌%◌, ◌<◌, ◌≤◌, ◌⊎◌, sym, ◌∙◌, ap, subst}
use Rattle.rx_spec.proofs.Prelude.{arith, inl, inr, bit_or, bit_and, true, ◌==◌, ◌&&◌, ◌||◌, not, nat_le, nat_lt, ap₂}
use Rattle.rx_spec.proofs.Prelude.{suc, common_steps, w128, bit_at, nat_tests, eqb_tells, or_lt, one_shl, contains}
use Rattle.rx_spec.proofs.Prelude.{only, between, parts}
use Rattle.std.proofs.Common.{bit_xor}
use Rattle.std.specs.Int.Bits.{or_zero_r, and_lt}
use Rattle.std.proofs.lemmas.Nat.{or_block, pow_below, pow-add, xor_lt}
use Rattle.std.proofs.lemmas.Nat.Bits.{shr_and_one, bit_at_or, bit_at-pow_same, bit_at-pow_other, bit_at_above}
use Rattle.std.proofs.lemmas.Nat.Bits.{bit_at-suc, bit_at_xor, bit_at_cat_low, bit_at_cat_high, bit_at_clear_same}
use Rattle.std.proofs.lemmas.Nat.Bits.{bit_at_clear_other, bit_at_mask_below, bit_at_mask_inside, bit_at_mask_above}

abbrev pub joined : ℕ → ℕ → ℕ
joined high low = high * 2 ^ 128 + low

-- 1 << k in a half
abbrev pub bit : ℕ → ℕ
bit k = 1 * 2 ^ k % 2 ^ 128

half_or_other : (b : ℕ) → (b < 128) ⊎ (128 ≤ b)
half_or_other b = grind arith

-- ---- a byte is in the set where its bit is set in its half
byte_in : (set b n : ℕ) → b < 256 → n ≡ bit_at set b → (n == 1) ≡ contains set b
byte_in set b n is_byte e = grind (arith, common_steps, nat_tests)

pub contains-low : (high low b : ℕ) → b < 128 → (bit_and (low / 2 ^ b) 1 == 1) ≡ contains (joined high low) b
contains-low high low b below =
    byte_in (joined high low) b _ (omega arith) (shr_and_one low b ∙ sym (bit_at_cat_low high 128 low b below))

pub contains-high : (high low b : ℕ) → low < 2 ^ 128 → 128 ≤ b → b < 256
    → (bit_and (high / 2 ^ (b - 128)) 1 == 1) ≡ contains (joined high low) b
contains-high high low b fits from below = search (rules, byte_in, shr_and_one, bit_at_cat_high)

-- ---- the union of two sets is made by halves
pub joined-or : (h l h' l' : ℕ) → l < 2 ^ 128 → l' < 2 ^ 128
    → joined (bit_or h h') (bit_or l l') ≡ bit_or (joined h l) (joined h' l')
joined-or h l h' l' fits fits' = sym (or_block 128 h h' l l' fits fits')

-- ---- one byte more
bit_is : (k : ℕ) → k < 128 → bit k ≡ 2 ^ k
bit_is k below = one_shl k 128 below

pub bit_fits : (k : ℕ) → k < 128 → bit k < 2 ^ 128
bit_fits k below = subst (λ n. n < 2 ^ 128) (sym (bit_is k below)) (pow_below k 128 below)

pub or-fits : (half k : ℕ) → half < 2 ^ 128 → k < 128 → bit_or half (bit k) < 2 ^ 128
or-fits half k fits below = or_lt 128 half (bit k) fits (bit_fits k below)

pub joined-or_low : (high low b : ℕ) → low < 2 ^ 128 → b < 128
    → joined high (bit_or low (bit b)) ≡ bit_or (joined high low) (2 ^ b)
joined-or_low high low b fits below =
    ap (λ n. joined n (bit_or low (bit b))) (sym (or_zero_r high))
    ∙ joined-or high low 0 (bit b) fits (bit_fits b below)
    ∙ ap (λ n. bit_or (joined high low) n) (alone (bit b) ∙ bit_is b below)
  where
    alone : (n : ℕ) → joined 0 n ≡ n
    alone n = omega arith

pub joined-or_high : (high low b : ℕ) → low < 2 ^ 128 → 128 ≤ b → b < 256
    → joined (bit_or high (bit (b - 128))) low ≡ bit_or (joined high low) (2 ^ b)
joined-or_high high low b fits from below =
    ap (λ n. joined (bit_or high (bit (b - 128))) n) (sym (or_zero_r low))
    ∙ joined-or high low (bit (b - 128)) 0 fits (omega arith)
    ∙ ap (λ n. bit_or (joined high low) n) (ap (λ n. joined n 0) (bit_is (b - 128) (omega arith)) ∙ shifted)
  where
    alone : (n : ℕ) → n + 0 ≡ n
    alone n = omega arith

    placed : b - 128 + 128 ≡ b
    placed = omega arith

    shifted : joined (2 ^ (b - 128)) 0 ≡ 2 ^ b
    shifted = alone (2 ^ (b - 128) * 2 ^ 128) ∙ sym (pow-add 2 (b - 128) 128) ∙ ap (λ n. 2 ^ n) placed

-- ---- one byte less
without : (set changed b : ℕ) → bit_at changed b ≡ 0 → ((c : ℕ) → c ≢ b → bit_at changed c ≡ bit_at set c)
    → (c : ℕ) → contains changed c ≡ (contains set c && not (c == b))
without set changed b gone kept c = grind (arith, common_steps)

-- a half without a bit
abbrev pub cleared : ℕ → ℕ → ℕ
cleared half k = bit_and half (2 ^ 128 - 1 - bit k)

cleared-fits : (half k : ℕ) → half < 2 ^ 128 → cleared half k < 2 ^ 128
cleared-fits half k fits = and_lt 128 half (2 ^ 128 - 1 - bit k) fits (omega arith)

pub contains-without_low : (high low b : ℕ) → low < 2 ^ 128 → b < 128
    → (c : ℕ) → contains (joined high (cleared low b)) c ≡ (contains (joined high low) c && not (c == b))
contains-without_low high low b fits below =
    without (joined high low) (joined high (cleared low b)) b gone kept
  where
    gone : bit_at (joined high (cleared low b)) b ≡ 0
    gone = bit_at_cat_low high 128 (cleared low b) b below ∙ bit_at_clear_same w128 low b below

    kept : (c : ℕ) → c ≢ b → bit_at (joined high (cleared low b)) c ≡ bit_at (joined high low) c
    kept c ne = elim (half_or_other c) [
      | inl in_low ↦
          bit_at_cat_low high 128 (cleared low b) c in_low ∙ bit_at_clear_other w128 low b below c in_low ne
          ∙ sym (bit_at_cat_low high 128 low c in_low)
      | inr in_high ↦
          bit_at_cat_high high 128 (cleared low b) c (cleared-fits low b fits) in_high
          ∙ sym (bit_at_cat_high high 128 low c fits in_high)
    ]

pub contains-without_high : (high low b : ℕ) → (low < 2 ^ 128) × (high < 2 ^ 128) → 128 ≤ b → b < 256
    → (c : ℕ) → contains (joined (cleared high (b - 128)) low) c ≡ (contains (joined high low) c && not (c == b))
contains-without_high high low b fits from below =
    without (joined high low) (joined (cleared high (b - 128)) low) b gone kept
  where
    within : b - 128 < 128
    within = omega arith

    gone : bit_at (joined (cleared high (b - 128)) low) b ≡ 0
    gone = bit_at_cat_high (cleared high (b - 128)) 128 low b fits.0 from ∙ bit_at_clear_same w128 high (b - 128) within

    kept : (c : ℕ) → c ≢ b → bit_at (joined (cleared high (b - 128)) low) c ≡ bit_at (joined high low) c
    kept c ne = elim (half_or_other c) [
      | inl in_low ↦
          bit_at_cat_low (cleared high (b - 128)) 128 low c in_low ∙ sym (bit_at_cat_low high 128 low c in_low)
      | inr in_high ↦
          bit_at_cat_high (cleared high (b - 128)) 128 low c fits.0 in_high
          ∙ in_half c in_high ne
          ∙ sym (bit_at_cat_high high 128 low c fits.0 in_high)
    ]
      where
        in_half : (c : ℕ) → 128 ≤ c → c ≢ b → bit_at (cleared high (b - 128)) (c - 128) ≡ bit_at high (c - 128)
        in_half c in_high ne = elim (half_or_other (c - 128)) [
          | inl inside ↦ bit_at_clear_other w128 high (b - 128) within (c - 128) inside (λ e. ne (omega arith))
          | inr past ↦
              bit_at_above (cleared high (b - 128)) 128 (c - 128) (cleared-fits high (b - 128) fits.1) past
              ∙ sym (bit_at_above high 128 (c - 128) fits.1 past)
        ]

-- ---- the bytes of a union, of one byte, of a range
pub contains-or : (set other b : ℕ) → contains (bit_or set other) b ≡ (contains set b || contains other b)
contains-or set other b = grind (arith, common_steps, bit_at_or)

pub contains-only : (byte b : ℕ) → byte < 256 → contains (only byte) b ≡ (b == byte)
contains-only byte b h = grind (arith, common_steps, eqb_tells, nat_tests, bit_at-pow_same, bit_at-pow_other)

pub contains-add : (set byte b : ℕ) → byte < 256 → contains (bit_or set (only byte)) b ≡ (contains set b || (b == byte))
contains-add set byte b h = grind (arith, common_steps, contains-or, contains-only)

pub contains-between : (first last b : ℕ) → last < 256
    → contains (between first last) b ≡ (nat_le first b && nat_le b last)
contains-between first last b h =
    grind (arith, common_steps, nat_tests, bit_at_mask_below, bit_at_mask_inside, bit_at_mask_above)

-- the bytes where a range is told apart from what is beside it: the one before it, and its last one
pub parts-between : (first last b : ℕ) → first ≤ last → last < 256
    → parts (contains (between first last)) b (b + 1) ≡ ((b + 1 == first) || (b == last))
parts-between first last b h k = grind (arith, common_steps, contains-between, nat_tests)

-- ---- the bytes that a set tells apart from the next one

xor_bit : (h l h' l' b : ℕ) → l < 2 ^ 128 → l' < 2 ^ 128
    → bit_at (joined (bit_xor h h') (bit_xor l l')) b ≡ (bit_at (joined h l) b + bit_at (joined h' l') b) % 2
xor_bit h l h' l' b fits fits' = elim (half_or_other b) [
  | inl below ↦
      bit_at_cat_low (bit_xor h h') 128 (bit_xor l l') b below ∙ bit_at_xor l l' b
      ∙ sym (ap₂ (λ (x y : ℕ). (x + y) % 2) (bit_at_cat_low h 128 l b below) (bit_at_cat_low h' 128 l' b below))
  | inr from ↦
      bit_at_cat_high (bit_xor h h') 128 (bit_xor l l') b (xor_lt 128 l l' fits fits') from
      ∙ bit_at_xor h h' (b - 128)
      ∙ sym (ap₂ (λ (x y : ℕ). (x + y) % 2) (bit_at_cat_high h 128 l b fits from)
      (bit_at_cat_high h' 128 l' b fits' from))
]

-- each byte where the one before it stood
abbrev pub next_low : ℕ → ℕ → ℕ
next_low high low = low / 2 + high % 2 * 2 ^ 127

pub next_low-fits : (h l : ℕ) → l < 2 ^ 128 → next_low h l < 2 ^ 128
next_low-fits h l fits = omega arith

pub half-fits : (h : ℕ) → h < 2 ^ 128 → h / 2 < 2 ^ 128
half-fits h fits = omega arith

halved : (h l : ℕ) → joined (h / 2) (next_low h l) ≡ joined h l / 2
halved h l = omega arith

pub contains-ends : (h l b : ℕ) → l < 2 ^ 128 → b < 255
    → contains (joined (bit_xor h (h / 2)) (bit_xor l (next_low h l))) b ≡ parts (contains (joined h l)) b (b + 1)
contains-ends h l b fits below =
    let set = joined h l in
    let here : nat_lt b 256 ≡ true = grind (arith, nat_tests) in
    let next : nat_lt (b + 1) 256 ≡ true = grind (arith, nat_tests) in
    let later : suc b ≡ b + 1 = omega arith in
    grind (arith, common_steps, xor_bit, next_low-fits, bit_at, halved, bit_at-suc)
