-- What is answered depends on the span's bytes and on its two neighbours alone.
use Rattle.rx_spec.proofs.Prelude.{rules, ◌≡◌, ℕ, zero, suc, ◌+◌, ◌-◌, ◌<◌, ◌≤◌, ⊎_elim, false, List, [], ◌∷◌, take}
use Rattle.rx_spec.proofs.Prelude.{drop, refl, ap, sym, ◌∙◌, subst, arith, common_steps, cases_lt, eqb-false, drop-drop}
use Rattle.rx_spec.proofs.Prelude.{slice_get, before, after, Query, Machine, Settings, power, build_settings}
use Rattle.rx_spec.proofs.Prelude.{span_bytes, half_search, overlapping, narrower, is_narrowest, back_from}
use Rattle.std.proofs.lemmas.List.{take-take, drop-take}
use Rattle.rx_spec.specs.declared.Direction.{Direction}
use Rattle.rx_meaning.specs.Bounds.{SameSpan, SpanDecides, SpanDecidesOverlapping, SpanDecidesBuild}

-- ---- any machine

pub same_half : {R : Type 0} (m : Machine R) (s : Settings) (direction : Direction) (p q : Query) → SameSpan p q
    → half_search m s direction p ≡ half_search m s direction q
same_half m s Direction.Forward p q e = rw (e.bytes, e.before, e.after, e.start, e.end, e.mode, e.earliest) refl
same_half m s Direction.Reverse p q e = rw (e.bytes, e.before, e.after, e.start, e.end, e.mode, e.earliest) refl

pub same_overlapping : {R : Type 0} (m : Machine R) (s : Settings) (direction : Direction) (p q : Query) → SameSpan p q
    → overlapping m s direction p ≡ overlapping m s direction q
same_overlapping m s Direction.Forward p q e = rw (e.bytes, e.before, e.after, e.start, e.end, e.mode) refl
same_overlapping m s Direction.Reverse p q e = rw (e.bytes, e.before, e.after, e.start, e.end, e.mode) refl

pub span_decides : SpanDecides
span_decides t direction p q e = same_half t.machine t.settings direction p q e

pub span_decides_overlapping : SpanDecidesOverlapping
span_decides_overlapping t direction p q e = same_overlapping t.machine t.settings direction p q e

pub span_decides_build : SpanDecidesBuild
span_decides_build b direction p q e = same_half (power b) (build_settings b) direction p q e

-- ---- parts of the span

slice_get-take : (n : ℕ) (xs : List ℕ) (k : ℕ) → k < n → slice_get (take n xs) k ≡ slice_get xs k
slice_get-take zero xs k h = absurd (omega arith)
slice_get-take (suc n) [] k h = refl
slice_get-take (suc n) (x ∷ xs) zero h = refl
slice_get-take (suc n) (x ∷ xs) (suc k) h = slice_get-take n xs k (omega arith)

slice_get-drop : (n : ℕ) (xs : List ℕ) (k : ℕ) → slice_get (drop n xs) k ≡ slice_get xs (n + k)
slice_get-drop zero xs k = let e : k ≡ 0 + k = omega arith in ap (slice_get xs) e
slice_get-drop (suc n) [] k = refl
slice_get-drop (suc n) (x ∷ xs) k =
    let e : suc (n + k) ≡ suc n + k = omega arith in slice_get-drop n xs k ∙ ap (slice_get (x ∷ xs)) e

-- a byte of the span
in_span : (q : Query) (o : ℕ) → q.start ≤ o → o < q.end → slice_get (span_bytes q) (o - q.start) ≡ after q.haystack o
in_span q o low high = grind (arith, common_steps, slice_get-take, slice_get-drop)

-- the bytes of a part of it
part_of : (q : Query) (s e : ℕ) → q.start ≤ s → s ≤ e → e ≤ q.end
    → take (e - s) (drop s q.haystack) ≡ drop (s - q.start) (take (e - q.start) (span_bytes q))
part_of q s e low order high =
    let d = s - q.start in
    let first : s ≡ q.start + d = omega arith in
    let long : d + (e - s) ≡ e - q.start = omega arith in
    let rest = drop q.start q.haystack in
    grind (arith, common_steps, drop-drop, drop-take, take-take)

-- the query of another haystack
abbrev pub other : Query → List ℕ → Query
other p haystack = record p { haystack = haystack }

pub is_other : (p q : Query) → SameSpan p q → other p q.haystack ≡ q
is_other p q same = rw (same.start, same.end, same.mode, same.earliest) refl

pub to_other : (p q : Query) → SameSpan p q → SameSpan p (other p q.haystack)
to_other p q same = subst (SameSpan p) (sym (is_other p q same)) same

module _ (p : Query) (haystack : List ℕ) (same : SameSpan p (other p haystack)) where
  same_byte : (o : ℕ) → p.start ≤ o → o < p.end → after p.haystack o ≡ after haystack o
  same_byte o low high =
      sym (in_span p o low high) ∙ ap (λ bytes. slice_get bytes (o - p.start)) same.bytes
      ∙ in_span (other p haystack) o low high

  pub same_after : (o : ℕ) → p.start ≤ o → o ≤ p.end → after p.haystack o ≡ after haystack o
  same_after o low high = grind (arith, common_steps, same_byte)

  same_bytes : (s e : ℕ) → p.start ≤ s → s ≤ e → e ≤ p.end
      → take (e - s) (drop s p.haystack) ≡ take (e - s) (drop s haystack)
  same_bytes s e low order high =
      part_of p s e low order high
      ∙ ap (λ bytes. drop (s - p.start) (take (e - p.start) bytes)) same.bytes
      ∙ sym (part_of (other p haystack) s e low order high)

  no_bytes : (s e : ℕ) → e ≤ s → take (e - s) (drop s p.haystack) ≡ take (e - s) (drop s haystack)
  no_bytes s e h = grind (arith, common_steps)

  -- narrower by one
  pub narrower_same : (direction : Direction) → p.start ≤ p.end → is_narrowest direction p ≡ false
      → SameSpan (narrower direction p) (other (narrower direction p) haystack)
  narrower_same Direction.Forward order wide = search (rules, same_bytes, same_after)
  narrower_same Direction.Reverse order wide = record {
    start = refl;
    end = refl;
    mode = refl;
    earliest = refl;
    bytes =
        ⊎_elim (λ (l : p.start < p.end). same_bytes p.start (p.end - 1) (omega arith) (omega arith) (omega arith))
        (λ (l : p.end ≤ p.start). no_bytes p.start (p.end - 1) (omega arith)) (cases_lt p.start p.end);
    before = same.before;
    after =
        ⊎_elim (λ (l : p.start < p.end). same_after (p.end - 1) (omega arith) (omega arith))
        (λ (l : p.end ≤ p.start). at_start p.start (omega arith) same.before) (cases_lt p.start p.end);
  }
    where
      above : p.end ≡ 0 → ⊥
      above = eqb-false p.end 0 wide

      at_start : (s : ℕ) → s ≡ p.end → before p.haystack s ≡ before haystack s
          → after p.haystack (p.end - 1) ≡ after haystack (p.end - 1)
      at_start zero is e = absurd (above (sym is))
      at_start (suc i) is e = let last : i ≡ p.end - 1 = omega arith in
          subst (λ o. after p.haystack o ≡ after haystack o) last e

  -- from a later place on
  pub later_same : (s : ℕ) → p.start ≤ s → s ≤ p.end
      → SameSpan (record p { start = s }) (other (record p { start = s }) haystack)
  later_same s low high = record {
    start = refl;
    end = refl;
    mode = refl;
    earliest = refl;
    bytes = same_bytes s p.end low high (omega arith);
    before = ⊎_elim (λ (l : p.start < s). past s l high)
        (λ (l : s ≤ p.start). let first : p.start ≡ s = omega arith in
        subst (λ o. before p.haystack o ≡ before haystack o) first same.before) (cases_lt p.start s);
    after = same.after;
  }
    where
      past : (s : ℕ) → p.start < s → s ≤ p.end → before p.haystack s ≡ before haystack s
      past zero l high = absurd (omega arith)
      past (suc i) l high = same_byte i (omega arith) (omega arith)

  -- for the start of a match
  pub back_same : (end : ℕ) → p.start ≤ end → end ≤ p.end
      → SameSpan (back_from p end) (other (back_from p end) haystack)
  back_same end low high = grind (arith, common_steps, same_bytes, same_after)
