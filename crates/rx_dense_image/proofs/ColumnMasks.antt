-- The columns of rows go round with the rows, and what stands in them is what the rows are asked for.
use Rattle.rx_spec.proofs.Prelude.{common_steps, ◌≡◌, ℕ, zero, suc, ◌-◌, ◌%◌, ◌^◌, ◌<◌, ◌≤◌, Bool, true, false, cond}
use Rattle.rx_spec.proofs.Prelude.{not, ◌&&◌, ltb, leb, eqb, List, length, bit_and, ◌∙◌, arith, list_all}
use Rattle.rx_spec.proofs.Prelude.{range_with_len}
use Rattle.std.proofs.lemmas.Nat.{and_mask, and_le_r}
use Rattle.rx_base.specs.ByteClasses.{alphabet_len}
use Rattle.rx_image_parts.specs.Words.{word_at}
use Rattle.rx_dense_image.specs.Rows.{Rows, are_entries, cleared, is_entry}
use Rattle.rx_dense_image.specs.Bulk.{AreOf, column_forbidden, may_stand, stand_below, kept_word, word_stands}
use Rattle.rx_dense_image.specs.declared.bulk.Columns.{Columns}
use Rattle.rx_image_parts.proofs.EachBelow.{all_below}
use Rattle.rx_image_parts.proofs.WordBytes.{IsBytes, word_small}

-- ---- 512 is a multiple of each stride

rounds : (s k : ℕ) → s ≤ 9 → (k % 512) % 2 ^ s ≡ k % 2 ^ s
rounds zero k h = omega arith
rounds (suc zero) k h = omega arith
rounds (suc (suc zero)) k h = omega arith
rounds (suc (suc (suc zero))) k h = omega arith
rounds (suc (suc (suc (suc zero)))) k h = omega arith
rounds (suc (suc (suc (suc (suc zero))))) k h = omega arith
rounds (suc (suc (suc (suc (suc (suc zero)))))) k h = omega arith
rounds (suc (suc (suc (suc (suc (suc (suc zero))))))) k h = omega arith
rounds (suc (suc (suc (suc (suc (suc (suc (suc zero)))))))) k h = omega arith
rounds (suc (suc (suc (suc (suc (suc (suc (suc (suc zero))))))))) k h = omega arith
rounds (suc (suc (suc (suc (suc (suc (suc (suc (suc (suc n)))))))))) k h = absurd (omega arith)

-- ---- what a mask keeps

kept_or_none : (b : Bool) (w : ℕ) → w < 2 ^ 32 → bit_and w (cond b 4294967295 0) ≡ cond b w 0
kept_or_none true w lt = (let h : bit_and w 4294967295 ≡ w % 2 ^ 32 = and_mask w 32 in h ∙ omega arith)
kept_or_none false w lt = omega (arith, and_le_r w 0)

module _ {c : Columns} {s alphabet : ℕ} (of : AreOf c s alphabet) where
  -- what is kept of a word is the cleared word
  pub kept_cleared : (bytes : List ℕ) → IsBytes bytes → (k : ℕ)
      → kept_word c bytes k ≡ cleared (2 ^ s) alphabet k (word_at c.order bytes k)
  kept_cleared bytes fits k = grind (arith, common_steps, rounds, kept_or_none, word_small)

  pub stands_column : (last : ℕ) (bytes : List ℕ) (k w : ℕ) → w ≡ kept_word c bytes k
      → word_stands s last c bytes k ≡ may_stand (2 ^ s) last (column_forbidden (2 ^ s) alphabet k) w
  stands_column last bytes k w same = grind (arith, common_steps, rounds)

-- ---- what stands in the columns is what rows are asked for

-- an id is at most that of the last row exactly where it stands within the words
at_most_last : (x n s : ℕ) → 0 < s → 0 < n → n % s ≡ 0 → x % s ≡ 0 → leb x (n - s) ≡ ltb x n
at_most_last x n s some words whole of = grind (arith, common_steps)

stands_entry : (x n s : ℕ) (b : Bool) → 0 < s → 0 < n → n % s ≡ 0 → n - s ≤ 2147483646
    → may_stand s (n - s) (cond b s 4294967295) x ≡ (((eqb (x % s) 0) && ltb x n) && not (b && eqb x s))
stands_entry x n s b some words whole small = grind (arith, common_steps, at_most_last)

-- all words stand where each is an entry
pub stand_entries : (rows : Rows) → length rows.words % 2 ^ rows.stride2 ≡ 0
    → length rows.words - 2 ^ rows.stride2 ≤ 2147483646
    → stand_below (2 ^ rows.stride2) (alphabet_len rows.classes) (length rows.words - 2 ^ rows.stride2) rows.words
    ≡ list_all (is_entry rows) (range_with_len 0 (length rows.words))
stand_entries rows whole small = grind (arith, common_steps, stands_entry, all_below)

-- what was found while the words were read, as the test of the rows
pub record IsFound (rows : Rows) (last : ℕ) (sound : Bool) : Type 0 where
  pub whole : length rows.words % 2 ^ rows.stride2 ≡ 0
  pub is_last : last ≡ length rows.words - 2 ^ rows.stride2
  pub is_sound : sound ≡ stand_below (2 ^ rows.stride2) (alphabet_len rows.classes) last rows.words

pub found_entries : {rows : Rows} {last : ℕ} {sound : Bool} → IsFound rows last sound
    → (leb last 2147483646 && sound) ≡ are_entries rows
found_entries {rows} {last} {sound} found = grind (arith, common_steps, stand_entries)
