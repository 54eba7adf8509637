-- Kinds of rows as numbers, and ranges of ids.
use Rattle.std.proofs.lemmas.Bool.{cases_Bool}
use Rattle.rx_spec.proofs.Prelude.{common_steps, ◌≡◌, ℕ, ◌*◌, ◌<◌, ◌≤◌, ◌==◌, ◌&&◌, nat_lt, nat_le, Bool, true}
use Rattle.rx_spec.proofs.Prelude.{if◌then◌else◌, List, ap, sym, ◌∙◌, ⊎_elim, arith, cases_eq, cases_lt, eq-eqb, ne_eqb}
use Rattle.rx_spec.proofs.Prelude.{lt-ltb, le-ltb, nat_tests, mul-le, row_fits, Label, is_match_label, false}
use Rattle.rx_order.proofs.Prelude.{first_id, is_in_range, kind_by, last_id}

-- ---- tests

pub at_most : (a b : ℕ) → a ≤ b → nat_le a b ≡ true
at_most a b h = grind (arith, nat_tests)

pub over : (a b : ℕ) → b < a → nat_le a b ≡ false
over a b h = grind (arith, nat_tests)

pub between : (from to kind : ℕ) → from < kind → kind ≤ to → (nat_lt from kind && nat_le kind to) ≡ true
between from to kind low high = grind (arith, nat_tests)

-- numbers that are equal where two others are
pub same_test : {a b c d : ℕ} → (a ≡ b → c ≡ d) → (c ≡ d → a ≡ b) → (a == b) ≡ (c == d)
same_test {a} {b} {c} {d} there back = grind (arith, common_steps, eq-eqb, ne_eqb, cases_eq)

-- ---- ranges of ids

-- no rows are in a range that begins and ends at dead
pub none_in_range : (id : ℕ) → is_in_range 0 0 id ≡ false
none_in_range id = grind (arith, common_steps, over, at_most, cases_eq)

module _ (width from to place : ℕ) (some : 0 < width) (behind : 0 < from) where
  pub id : ℕ
  id = place * width

  times : (a b : ℕ) → a ≤ b → a * width ≤ b * width
  times a b h = mul-le a width b width h (omega arith)

  pub above : (a b : ℕ) → a < b → a * width < b * width
  above a b h = omega (arith, row_fits a width b width h (omega arith))

  pub in_ids : is_in_range (first_id width from to) (last_id width from to) (place * width)
      ≡ (nat_le from place && nat_lt place to)
  in_ids = grind (arith, common_steps, lt-ltb, over, above, at_most, times, ne_eqb, le-ltb, cases_lt, cases_eq)

-- ---- kinds

-- the kind of a row behind quit
abbrev pub high_kind : (matches accelerated starts : Bool) → ℕ
high_kind matches accelerated starts =
    if matches then (if accelerated then 3 else 2)
    else (if accelerated then (if starts then 5 else 4) else (if starts then 6 else 7))

pub kind_high : (row : ℕ) (m a s : Bool) → 1 < row → kind_by row m a s ≡ high_kind m a s
kind_high row m a s h = grind (arith, common_steps, ne_eqb)

pub high_above : (m a s : Bool) → 2 ≤ high_kind m a s
high_above m a s = grind (arith, common_steps, cases_Bool)

high_below : (m a s : Bool) → high_kind m a s < 8
high_below m a s = grind (arith, common_steps, cases_Bool)

pub kind_small : (row : ℕ) (m a s : Bool) → kind_by row m a s < 8
kind_small row m a s = grind (arith, common_steps, kind_high, high_below, cases_eq, cases_lt)

-- the first kinds are those of dead and quit
pub row_first : (row : ℕ) (m a s : Bool) → kind_by row m a s ≤ 1 → row ≤ 1
row_first row m a s h = grind (arith, common_steps, kind_high, high_above, cases_lt)

pub row_dead : (row : ℕ) (m a s : Bool) → kind_by row m a s ≤ 0 → row ≡ 0
row_dead row m a s h = grind (arith, common_steps, row_first, cases_eq)

pub kind_low : (row : ℕ) (m a s : Bool) → row ≤ 1 → kind_by row m a s ≡ row
kind_low row m a s h = grind (arith, common_steps, cases_eq)

-- two rows of which each is behind quit where the other is
pub kind_alike : (x y : ℕ) (m a s : Bool) → (x ≤ 1 → y ≡ x) → (1 < x → 1 < y) → kind_by x m a s ≡ kind_by y m a s
kind_alike x y m a s low high =
    ⊎_elim
    (λ (h : 1 < x). kind_high x m a s h ∙ sym (kind_high y m a s (high h)))
    (λ (h : x ≤ 1). ap (λ row. kind_by row m a s) (sym (low h)))
    (cases_lt 1 x)

-- which kinds are which rows
pub high_matches : (m a s : Bool) → (nat_lt 1 (high_kind m a s) && nat_le (high_kind m a s) 3) ≡ m
high_matches m a s = grind (arith, common_steps, cases_Bool)

pub high_accels : (m a s : Bool) → (nat_lt 2 (high_kind m a s) && nat_le (high_kind m a s) 5) ≡ a
high_accels m a s = grind (arith, common_steps, cases_Bool)

pub high_starts : (m a s : Bool) → (m ≡ true → s ≡ false)
    → (nat_lt 4 (high_kind m a s) && nat_le (high_kind m a s) 6) ≡ s
high_starts m a s plain = grind (arith, common_steps, cases_Bool)

-- so with the kinds of all rows, where dead and quit don't match and aren't accelerated
module _ (row : ℕ) (m a s : Bool) where
  by_kind : (from to : ℕ) (test : Bool) → 1 ≤ from → (row ≤ 1 → test ≡ false)
      → (nat_lt from (high_kind m a s) && nat_le (high_kind m a s) to) ≡ test
      → (nat_lt from (kind_by row m a s) && nat_le (kind_by row m a s) to) ≡ test
  by_kind from to test some low high = grind (arith, common_steps, kind_high, kind_low, le-ltb, cases_lt)

  pub kind_matches : (row ≤ 1 → m ≡ false) → (nat_lt 1 (kind_by row m a s) && nat_le (kind_by row m a s) 3) ≡ m
  kind_matches low = by_kind 1 3 m (omega arith) low (high_matches m a s)

  pub kind_accels : (row ≤ 1 → a ≡ false) → (nat_lt 2 (kind_by row m a s) && nat_le (kind_by row m a s) 5) ≡ a
  kind_accels low = by_kind 2 5 a (omega arith) low (high_accels m a s)

  pub kind_starts : (row ≤ 1 → s ≡ false) → (m ≡ true → s ≡ false)
      → (nat_lt 4 (kind_by row m a s) && nat_le (kind_by row m a s) 6) ≡ s
  kind_starts low plain = by_kind 4 6 s (omega arith) low (high_starts m a s plain)

-- a label is that of a match row where its id is in the range
pub label_match : (m q : Bool) (ks : List ℕ)
    → is_match_label (if m then Label.Matches ks else (if q then Label.Quits else Label.Plain)) ≡ m
label_match m q ks = grind (arith, common_steps, cases_Bool)
