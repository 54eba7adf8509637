-- What is found, as a first success of worths: of the places where a match may begin, and of the patterns there.
use Rattle.rx_spec.proofs.Prelude.{rules, ◌≡◌, ℕ, zero, suc, ◌+◌, ◌-◌, ◌<◌, ◌≤◌, Bool, true, false, ◌==◌, ◌&&◌, nat_le}
use Rattle.rx_spec.proofs.Prelude.{if◌then◌else◌, find, Option, Some, None, List, [], ◌∷◌, length, slice_get, refl, ap}
use Rattle.rx_spec.proofs.Prelude.{sym, ◌∙◌, arith, common_steps, eq-eqb, eqb-true, eqb-false, slice_get_past}
use Rattle.rx_spec.proofs.Prelude.{option_and_then, range_with_len, Reading, Expression, ends, Anchored, Query, reading}
use Rattle.rx_spec.proofs.Prelude.{HalfMatch, admitted, first_of, end_within, found}
use Rattle.std.proofs.lemmas.Bool.{and_left}
use Rattle.std.specs.Option.{option_map}
use Rattle.rx_spec.specs.Found.{admits}
use Rattle.rx_spec.specs.declared.Direction.{Direction}
use Rattle.rx_lemmas.proofs.Ranges.{range_none, range_alike, range_push, or_none}
use Rattle.rx_meaning.specs.Preference.{end_of}
use Rattle.rx_meaning.proofs.FirstSuccess.{first_of-nil, first_of-map, first_of-alike, first_of-none, range_longer}

-- A match within the end is worth its pattern and end.
abbrev pub within_end : ℕ → ℕ → ℕ → Option HalfMatch
within_end end k j = if nat_le j end then Some (record { pattern = k; offset = j }) else None

-- the worth of an expression, pattern k, at a place: of its preferred end
abbrev pub end_worth : Reading → ℕ → ℕ → ℕ → Expression → Option HalfMatch
end_worth r end p k e = first_of (λ j. within_end end k j) (ends r e p)

matches_worth : (end k p : ℕ) (xs : List ℕ)
    → option_map end_of (option_map (λ j. record { pattern = k; start = p; end = j }) (find (λ j. nat_le j end) xs))
    ≡ first_of (λ j. within_end end k j) xs
unfolding first_of
matches_worth end k p [] = refl
matches_worth end k p (x ∷ xs) = grind (arith, common_steps, matches_worth end k p xs)

candidate_worth : (r : Reading) (end k p : ℕ) (v : Bool) (e : Option Expression)
    → option_map end_of (if v then option_and_then (λ e. option_map (λ j. record { pattern = k; start = p; end = j })
    (end_within r e end p)) e else None)
    ≡ (if v then option_and_then (end_worth r end p k) e else None)
candidate_worth r end k p false e = refl
candidate_worth r end k p true None = refl
candidate_worth r end k p true (Some e) = matches_worth end k p (ends r e p)

-- the first success where one number alone is asked for
only_one : {V : Type 0} (f : ℕ → Option V) (c n : ℕ) → (n ≤ c → f c ≡ None)
    → first_of (λ k. if k == c then f k else None) (range_with_len 0 n) ≡ f c
only_one f c zero past = first_of-nil (λ (k : ℕ). if k == c then f k else None) ∙ sym (past (omega arith))
only_one f c (suc n) past =
    grind (arith, common_steps, range_push, eqb-true, range_none, eqb-false, or_none, only_one f c n)

module _ (es : List Expression) (t : ℕ) (q : Query) where
  abbrev r : Reading
  r = reading Direction.Forward t q.haystack

  -- the worth at a place of one pattern, and the first of all
  abbrev pub pattern_found : ℕ → ℕ → Option HalfMatch
  pattern_found p k = option_and_then (end_worth (reading Direction.Forward t q.haystack) q.end p k) (slice_get es k)

  abbrev pub all_found : ℕ → Option HalfMatch
  all_found p = first_of (pattern_found p) (range_with_len 0 (length es))

  -- of the patterns that are admitted there
  abbrev admitted_found : ℕ → Option HalfMatch
  admitted_found p =
      first_of (λ k. if admitted q (length es) p k then pattern_found p k else None) (range_with_len 0 (length es))

  found_worth : option_map end_of (found es t q)
      ≡ first_of admitted_found (range_with_len q.start (q.end + 1 - q.start))
  found_worth = search (rules, first_of-map, first_of-alike, candidate_worth)

  -- in the span the mode alone decides
  abbrev mode_found_at : Anchored → ℕ → Option HalfMatch
  mode_found_at mode p =
      first_of (λ k. if admits mode q.start p k then pattern_found p k else None) (range_with_len 0 (length es))

  by_mode : q.start ≤ q.end → (mode : Anchored) → q.mode ≡ mode
      → option_map end_of (found es t q)
      ≡ first_of (mode_found_at mode) (range_with_len q.start (suc (q.end - q.start)))
  by_mode order mode is = grind (arith, common_steps, found_worth, range_alike)

  -- at one place alone
  one_place : (f : ℕ → Option HalfMatch) → ((i : ℕ) → 0 < i → f (q.start + i) ≡ None)
      → first_of f (range_with_len q.start (suc (q.end - q.start))) ≡ f q.start
  one_place f none =
      let one : 1 + (q.end - q.start) ≡ suc (q.end - q.start) = omega arith in
      ap (λ n. first_of f (range_with_len q.start n)) (sym one)
      ∙ range_longer f q.start 1 (q.end - q.start) (λ k low high. none k low)
      ∙ (unfold first_of in or_none (f q.start))

  not_there : (mode : Anchored) (i : ℕ) → ((p k : ℕ) → (p == q.start) ≡ false → admits mode q.start p k ≡ false)
      → 0 < i → mode_found_at mode (q.start + i) ≡ None
  not_there mode i refuses above = grind (arith, common_steps, first_of-none)

  -- What is found in each mode.
  abbrev pub mode_found : Anchored → Option HalfMatch
  mode_found Anchored.No = first_of all_found (range_with_len q.start (suc (q.end - q.start)))
  mode_found Anchored.Yes = all_found q.start
  mode_found (Anchored.Pattern c) = pattern_found q.start c

  pub found_in_mode : q.start ≤ q.end → (mode : Anchored) → q.mode ≡ mode
      → option_map end_of (found es t q) ≡ mode_found mode
  found_in_mode order Anchored.No is = by_mode order Anchored.No is
  found_in_mode order Anchored.Yes is =
      by_mode order Anchored.Yes is
      ∙ one_place (mode_found_at Anchored.Yes) (λ i above. not_there Anchored.Yes i (λ p k e. e) above)
      ∙ ap (λ v. first_of (λ k. if v then pattern_found q.start k else None) (range_with_len 0 (length es)))
      (eq-eqb q.start q.start refl)
  found_in_mode order (Anchored.Pattern c) is =
      by_mode order (Anchored.Pattern c) is
      ∙ one_place (mode_found_at (Anchored.Pattern c))
      (λ i above. not_there (Anchored.Pattern c) i (λ p k e. and_left (p == q.start) (k == c) e) above)
      ∙ ap (λ v. first_of (λ k. if v && (k == c) then pattern_found q.start k else None) (range_with_len 0 (length es)))
      (eq-eqb q.start q.start refl)
      ∙ only_one (pattern_found q.start) c (length es)
      (λ past. ap (option_and_then (end_worth r q.end q.start c)) (slice_get_past es c past))

  pub found_done : q.end < q.start → option_map end_of (found es t q) ≡ None
  found_done past = grind (arith, common_steps, first_of-nil)
