-- The next needle of a span, as it is found in the bytes that are left, and skips to it.
use Rattle.rx_spec.proofs.Prelude.{rules, ◌≡◌, ℕ, ◌+◌, ◌-◌, ◌<◌, ◌≤◌, Bool, true, false, ◌||◌, Option, Some, None, List}
use Rattle.rx_spec.proofs.Prelude.{[], ◌∷◌, length, take, drop, refl, ap, sym, ◌∙◌, arith, length-drop, length-take-le}
use Rattle.rx_spec.proofs.Prelude.{common_steps, or-false, false_from_ne_true, get_or-take, get_or-drop, slice_index}
use Rattle.rx_spec.proofs.Prelude.{Query, Table}
use Rattle.memchr.specs.Find.{IsFirstByte, IsLastByte, is_byte, is_byte2, is_byte3}
use Rattle.rx_spec.specs.declared.Direction.{Direction}
use Rattle.rx_search.specs.Needles.{is_nil, is_needle, byte_ahead, offset_after, IsNextNeedle, Skips}
use Rattle.rx_search.specs.Walks.{IsInSpan}
use Rattle.rx_search.proofs.Standing.{Standing}

-- ---- one, two or three needles

one_test : (needles : List ℕ) → length needles ≡ 1 → (x : ℕ) → is_byte (slice_index needles 0) x ≡ is_needle needles x
one_test [] e x = absurd (omega arith)
one_test (a ∷ []) e x = sym (or-false (is_byte a x))
one_test (a ∷ (b ∷ more)) e x = absurd (omega arith)

two_test : (needles : List ℕ) → length needles ≡ 2 → (x : ℕ)
    → is_byte2 (slice_index needles 0) (slice_index needles 1) x ≡ is_needle needles x
two_test [] e x = absurd (omega arith)
two_test (a ∷ []) e x = absurd (omega arith)
two_test (a ∷ (b ∷ [])) e x = ap (λ rest. is_byte a x || rest) (sym (or-false (is_byte b x)))
two_test (a ∷ (b ∷ (c ∷ more))) e x = absurd (omega arith)

three_test : (needles : List ℕ) → length needles ≡ 3 → (x : ℕ)
    → is_byte3 (slice_index needles 0) (slice_index needles 1) (slice_index needles 2) x ≡ is_needle needles x
three_test [] e x = absurd (omega arith)
three_test (a ∷ []) e x = absurd (omega arith)
three_test (a ∷ (b ∷ [])) e x = absurd (omega arith)
three_test (a ∷ (b ∷ (c ∷ []))) e x = grind (arith, common_steps)
three_test (a ∷ (b ∷ (c ∷ (d ∷ more)))) e x = absurd (omega arith)

first_same : (f g : ℕ → Bool) (hay : List ℕ) → ((x : ℕ) → f x ≡ g x) → (r : Option ℕ) → IsFirstByte f hay r
    → IsFirstByte g hay r
first_same f g hay same None is = λ k low high passes. is k low high (same (slice_index hay k) ∙ passes)
first_same f g hay same (Some at) is = grind (arith, common_steps)

last_same : (f g : ℕ → Bool) (hay : List ℕ) → ((x : ℕ) → f x ≡ g x) → (r : Option ℕ) → IsLastByte f hay r
    → IsLastByte g hay r
last_same f g hay same None is = λ k low high passes. is k low high (same (slice_index hay k) ∙ passes)
last_same f g hay same (Some at) is = grind (arith, common_steps)

module _ (needles hay : List ℕ) (r : Option ℕ) where
  pub first_of_one : length needles ≡ 1 → IsFirstByte (is_byte (slice_index needles 0)) hay r
      → IsFirstByte (is_needle needles) hay r
  first_of_one e = first_same (is_byte (slice_index needles 0)) (is_needle needles) hay (one_test needles e) r

  pub first_of_two : length needles ≡ 2 → IsFirstByte (is_byte2 (slice_index needles 0) (slice_index needles 1)) hay r
      → IsFirstByte (is_needle needles) hay r
  first_of_two e = grind (arith, common_steps, two_test)

  pub first_of_three : length needles ≡ 3
      → IsFirstByte (is_byte3 (slice_index needles 0) (slice_index needles 1) (slice_index needles 2)) hay r
      → IsFirstByte (is_needle needles) hay r
  first_of_three e = grind (arith, common_steps, three_test)

  pub last_of_one : length needles ≡ 1 → IsLastByte (is_byte (slice_index needles 0)) hay r
      → IsLastByte (is_needle needles) hay r
  last_of_one e = last_same (is_byte (slice_index needles 0)) (is_needle needles) hay (one_test needles e) r

  pub last_of_two : length needles ≡ 2 → IsLastByte (is_byte2 (slice_index needles 0) (slice_index needles 1)) hay r
      → IsLastByte (is_needle needles) hay r
  last_of_two e = grind (arith, common_steps, two_test)

  pub last_of_three : length needles ≡ 3
      → IsLastByte (is_byte3 (slice_index needles 0) (slice_index needles 1) (slice_index needles 2)) hay r
      → IsLastByte (is_needle needles) hay r
  last_of_three e = grind (arith, common_steps, three_test)

-- ---- the next one of a span

-- a place of the bytes from an offset up to another
part_at : (hay : List ℕ) (low high k : ℕ) → k < high - low
    → slice_index (take (high - low) (drop low hay)) k ≡ slice_index hay (low + k)
part_at hay low high k h = get_or-take (high - low) (drop low hay) k 0 h ∙ get_or-drop low hay k 0

part_length : (hay : List ℕ) (low high : ℕ) → high ≤ length hay → length (take (high - low) (drop low hay)) ≡ high - low
part_length hay low high h = length-take-le (high - low) (drop low hay) (simp length-drop (omega arith))

module _ (needles : List ℕ) (q : Query) (from : ℕ) (is : IsInSpan q from) (within : q.end ≤ length q.haystack) where
  pub no_next : IsFirstByte (is_needle needles) (take (q.end - from) (drop from q.haystack)) None
      → IsNextNeedle needles Direction.Forward q from q.end
  no_next none = search (rules, part_length, part_at)

  -- a byte before it in the order of reading, in reverse
  back_at : (k : ℕ) → k < from - q.start
      → slice_index (take (from - q.start) (drop q.start q.haystack)) (from - q.start - 1 - k)
      ≡ byte_ahead Direction.Reverse q.haystack (from - k)
  back_at k h = grind (arith, common_steps)

  pub no_last : IsLastByte (is_needle needles) (take (from - q.start) (drop q.start q.haystack)) None
      → IsNextNeedle needles Direction.Reverse q from q.start
  no_last none =
      let low = is.low in
      let high = is.high in
      let n = part_length q.haystack q.start from (omega arith) in
      record {
        count = from - q.start;
        there = omega arith;
        enough = omega arith;
        in_span = record { low = omega arith; high = omega arith };
        none = λ k h.
            ap (is_needle needles) (sym (back_at k h))
            ∙ false_from_ne_true _ (none (from - q.start - 1 - k) (omega arith) (omega arith));
        stands = λ ne. absurd (ne refl);
      }

  pub last_there : (at : ℕ) → IsLastByte (is_needle needles) (take (from - q.start) (drop q.start q.haystack)) (Some at)
      → IsNextNeedle needles Direction.Reverse q from (q.start + at + 1)
  last_there at last =
      let low = is.low in
      let high = is.high in
      let n = part_length q.haystack q.start from (omega arith) in
      let below : at < from - q.start = omega arith in
      let same : q.start + at ≡ q.start + at + 1 - 1 = omega arith in
      record {
        count = from - (q.start + at + 1);
        there = omega arith;
        enough = omega arith;
        in_span = record { low = omega arith; high = omega arith };
        none = λ k h.
            ap (is_needle needles) (sym (back_at k (omega arith)))
            ∙ false_from_ne_true _ (last.0.after (from - q.start - 1 - k) (omega arith) (omega arith));
        stands = λ ne.
            ap (is_needle needles) (sym (part_at q.haystack q.start from at below ∙ ap (slice_index q.haystack) same))
            ∙ last.1;
      }

-- ---- skips

-- an accelerated row has needles
pub some_needles : {t : Table} {row : ℕ} → Standing t row → t.is_accelerated row ≡ true
    → is_nil (t.needles row) ≡ false
some_needles {t} {row} s accelerated = search rules

module _ {t : Table} {row : ℕ} (s : Standing t row) (direction : Direction) (q : Query) (from : ℕ) where
  pub stays : IsInSpan q from → t.is_accelerated row ≡ false → Skips t direction q row from from
  stays is plain = grind (arith, common_steps)

  pub skips : (needles : List ℕ) (to : ℕ) → needles ≡ t.needles row → t.is_accelerated row ≡ true
      → IsNextNeedle needles direction q from to → Skips t direction q row from to
  skips needles to same accelerated next =
      let read = λ (byte : ℕ).
      ap (λ (none : Bool). none || is_needle (t.needles row) byte) (some_needles s accelerated)
      ∙ ap (λ (ns : List ℕ). is_needle ns byte) (sym same) in
      record {
        count = next.count;
        there = next.there;
        enough = next.enough;
        in_span = next.in_span;
        skipped = λ k h. read (byte_ahead direction q.haystack (offset_after direction from k)) ∙ next.none k h;
        is_ready = λ ne. read (byte_ahead direction q.haystack to) ∙ next.stands ne;
      }
