-- Lines: bytes that are no line feed change nothing.
use Rattle.std.proofs.lemmas.Grind.{common_steps}
use Rattle.rx_spec.proofs.Prelude.{◌≡◌, ◌≢◌, ℕ, zero, suc, ◌+◌, ◌-◌, ◌<◌, ◌≤◌, Bool, true, false, if◌then◌else◌, Some}
use Rattle.rx_spec.proofs.Prelude.{None, ⊎_elim, List, length, take, drop, refl, ap, sym, ◌∙◌, arith, length-drop}
use Rattle.rx_spec.proofs.Prelude.{length-take-le, cases_eq, get_or-take, get_or-drop, slice_get-get_or, slice_index}
use Rattle.rx_spec.proofs.Prelude.{after}
use Rattle.memchr.specs.Find.{IsFirstByte, is_byte as is}
use Rattle.rx_spec.specs.Looks.{is_byte}
use Rattle.rx_lemmas.proofs.Firsts.{by_test}
use Rattle.rx_scan.specs.Tokens.{line_feeds, line_start}

module _ (text : List ℕ) where
  abbrev pub is_feed : ℕ → Bool
  is_feed i = is_byte (after text i) 10

  pub feeds_on : (i : ℕ) → is_feed i ≡ true → line_feeds text (suc i) ≡ line_feeds text i + 1
  unfolding line_feeds
  feeds_on i e = ap (λ v. line_feeds text i + (if v then 1 else 0)) e

  pub feeds_same : (i : ℕ) → is_feed i ≡ false → line_feeds text (suc i) ≡ line_feeds text i
  unfolding line_feeds
  feeds_same i e = ap (λ v. line_feeds text i + (if v then 1 else 0)) e ∙ omega arith

  pub start_on : (i : ℕ) → is_feed i ≡ true → line_start text (suc i) ≡ suc i
  unfolding line_start
  start_on i e = ap (λ v. if v then suc i else line_start text i) e

  pub start_same : (i : ℕ) → is_feed i ≡ false → line_start text (suc i) ≡ line_start text i
  unfolding line_start
  start_same i e = ap (λ v. if v then suc i else line_start text i) e

  pub feeds_zero : line_feeds text 0 ≡ 0
  unfolding line_feeds
  feeds_zero = refl

  pub start_zero : line_start text 0 ≡ 0
  unfolding line_start
  start_zero = refl

  pub feeds_kept : (from n : ℕ) → ((k : ℕ) → k < n → is_feed (from + k) ≡ false)
      → line_feeds text (from + n) ≡ line_feeds text from
  feeds_kept from zero none = let e : from + 0 ≡ from = omega arith in ap (line_feeds text) e
  feeds_kept from (suc n) none =
      let e : from + suc n ≡ suc (from + n) = omega arith in
      ap (line_feeds text) e ∙ feeds_same (from + n) (none n (omega arith))
      ∙ feeds_kept from n (λ k h. none k (omega arith))

  pub start_kept : (from n : ℕ) → ((k : ℕ) → k < n → is_feed (from + k) ≡ false)
      → line_start text (from + n) ≡ line_start text from
  start_kept from zero none = let e : from + 0 ≡ from = omega arith in ap (line_start text) e
  start_kept from (suc n) none =
      let e : from + suc n ≡ suc (from + n) = omega arith in
      ap (line_start text) e ∙ start_same (from + n) (none n (omega arith))
      ∙ start_kept from n (λ k h. none k (omega arith))

  pub feeds_few : (p : ℕ) → line_feeds text p ≤ p
  feeds_few zero = let e = feeds_zero in omega arith
  feeds_few (suc i) =
      let few = feeds_few i in
      by_test (is_feed i) (λ e. let on = feeds_on i e in omega arith) (λ e. let same = feeds_same i e in omega arith)

  -- a place of the line that goes on at a later one
  pub same_line : (p q : ℕ) → line_start text q ≤ p → p ≤ q
      → (line_feeds text q ≡ line_feeds text p) × (line_start text q ≡ line_start text p)
  same_line p zero begun low = let e : 0 ≡ p = omega arith in (ap (line_feeds text) e, ap (line_start text) e)
  same_line p (suc i) begun low =
      ⊎_elim
      (λ (e : p ≡ suc i). (ap (line_feeds text) (sym e), ap (line_start text) (sym e)))
      (λ (other : p ≢ suc i). by_test (is_feed i)
      (λ feed. let on = start_on i feed in absurd (omega (arith, on)))
      (λ none. let before = same_line p i (let same = start_same i none in omega arith)
      (omega arith) in
      (feeds_same i none ∙ before.0, start_same i none ∙ before.1)))
      (cases_eq p (suc i))

  -- ---- the bytes from a place up to another

  module _ (at to : ℕ) (ordered : at ≤ to) (within : to ≤ length text) where
    abbrev part : List ℕ
    part = take (to - at) (drop at text)

    part_at : (k : ℕ) → k < to - at → slice_index part k ≡ slice_index text (at + k)
    part_at k h = get_or-take (to - at) (drop at text) k 0 h ∙ get_or-drop at text k 0

    feed_is : (k : ℕ) → k < to - at → is_feed (at + k) ≡ is 10 (slice_index part k)
    feed_is k h = grind (arith, common_steps, slice_get-get_or)

    part_length : length part ≡ to - at
    part_length = length-take-le (to - at) (drop at text) (simp length-drop (omega arith))

    none_before : (n : ℕ) → n ≤ to - at → ((k : ℕ) → k < n → is 10 (slice_index part k) ≡ true → ⊥)
        → (k : ℕ) → k < n → is_feed (at + k) ≡ false
    none_before n few none k h = grind (arith, common_steps, feed_is)

    -- none is there
    module _ (none : IsFirstByte (is 10) (take (to - at) (drop at text)) None) where
      plain : (k : ℕ) → k < to - at → is_feed (at + k) ≡ false
      plain = grind (arith, common_steps, none_before)

      there : at + (to - at) ≡ to
      there = omega arith

      pub feeds_to : line_feeds text at ≡ line_feeds text to
      feeds_to = sym (feeds_kept at (to - at) plain) ∙ ap (line_feeds text) there

      pub start_to : line_start text at ≡ line_start text to
      start_to = sym (start_kept at (to - at) plain) ∙ ap (line_start text) there

    -- the first one
    module _ (i : ℕ) (first : IsFirstByte (is 10) (take (to - at) (drop at text)) (Some i)) where
      pub found_within : i < to - at
      found_within = let n = part_length in let high = first.0.high in omega arith

      plain_before : (k : ℕ) → k < i → is_feed (at + k) ≡ false
      plain_before = none_before i (let w = found_within in omega arith) (λ k h. first.0.before k (omega arith) h)

      pub feeds_before : line_feeds text at ≡ line_feeds text (at + i)
      feeds_before = sym (feeds_kept at i plain_before)

      pub start_before_feed : line_start text at ≡ line_start text (at + i)
      start_before_feed = sym (start_kept at i plain_before)

      feed_there : is_feed (at + i) ≡ true
      feed_there = feed_is i found_within ∙ first.1

      on : suc (at + i) ≡ at + i + 1
      on = omega arith

      pub feeds_past : line_feeds text at + 1 ≡ line_feeds text (at + i + 1)
      feeds_past =
          ap (λ (n : ℕ). n + 1) (sym (feeds_kept at i plain_before)) ∙ sym (feeds_on (at + i) feed_there)
          ∙ ap (line_feeds text) on

      pub start_past : at + i + 1 ≡ line_start text (at + i + 1)
      start_past = sym on ∙ sym (start_on (at + i) feed_there) ∙ ap (line_start text) on
