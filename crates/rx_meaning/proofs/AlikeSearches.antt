-- Searches of two machines whose starts are alike, under settings that say the same of bytes.
use Rattle.rx_spec.proofs.Prelude.{rules, ◌≡◌, ℕ, suc, zero, ◌+◌, ◌<◌, ◌≤◌, true, if◌then◌else◌, Option, Some, None, []}
use Rattle.rx_spec.proofs.Prelude.{◌∷◌, ◌++◌, map, refl, ap, sym, ◌∙◌, subst, arith, ⊎_elim, common_steps, lt-ltb}
use Rattle.rx_spec.proofs.Prelude.{cases_lt, Contains-append_right, Contains, is_some, range_with_len, AreBytes}
use Rattle.rx_spec.proofs.Prelude.{Anchored, Query, Machine, Settings, has_unanchored, has_anchored, supports}
use Rattle.rx_spec.proofs.Prelude.{start_context, start_error, mode_error, start_row, SameLabels, beside, first_offset}
use Rattle.rx_spec.proofs.Prelude.{units_of, walk, half_search, overlapping_walk, overlapping}
use Rattle.rx_spec.specs.Builds.{pattern_modes}
use Rattle.rx_spec.specs.Tables.{SameSettings}
use Rattle.rx_spec.specs.Labels.{pattern_start_modes, table_modes}
use Rattle.rx_spec.specs.declared.Direction.{Direction}
use Rattle.rx_spec.specs.declared.Start.{Start}
use Rattle.rx_lemmas.proofs.Firsts.{Contains-there}
use Rattle.rx_lemmas.proofs.HalfSearches.{Done, Refused, Started, begins, started, half_done, half_refused}
use Rattle.rx_lemmas.proofs.HalfSearches.{half_walks, going}
use Rattle.rx_lemmas.proofs.Overlapping.{overlapping_done, overlapping_refused, overlapping_walks}
use Rattle.rx_lemmas.proofs.ReadUnits.{beside_is_byte, units_word}
use Rattle.rx_lemmas.proofs.SilentRows.{IsSilent, EndsWell}
use Rattle.rx_meaning.proofs.AlikeRows.{Alike, silent_alike, walk_alike, overlapping_alike}

-- ---- starts

-- Settings that say the same of bytes refuse the same starts, and give the same contexts.
module _ (s r : Settings) (same : SameSettings s r) where
  context_alike : (byte : Option ℕ) → ((b : ℕ) → byte ≡ Some b → b < 256) → start_context s byte ≡ start_context r byte
  context_alike None h = refl
  context_alike (Some b) h = same.start_of_byte b (h b refl)

  mode_alike : (mode : Anchored) → mode_error s mode ≡ mode_error r mode
  mode_alike mode = grind (arith, common_steps)

  error_alike : (byte : Option ℕ) (mode : Anchored) → ((b : ℕ) → byte ≡ Some b → b < 256)
      → start_error s byte mode ≡ start_error r byte mode
  error_alike None mode h = mode_alike mode
  error_alike (Some b) mode h = grind (arith, common_steps)

-- the modes that are supported are those that a table has, and patterns past the last
unanchored_there : (s : Settings) → has_unanchored s.start_kind ≡ true → Contains (table_modes s) Anchored.No
unanchored_there s e = grind (arith, common_steps)

anchored_there : (s : Settings) → has_anchored s.start_kind ≡ true → Contains (table_modes s) Anchored.Yes
anchored_there s e = search rules

modes_from : (n base k : ℕ) → k < n
    → Contains (map (λ i. Anchored.Pattern i) (range_with_len base n)) (Anchored.Pattern (base + k))
modes_from zero base k h = absurd (omega arith)
modes_from (suc n) base zero h = grind (arith, common_steps)
modes_from (suc n) base (suc k) h = grind (arith, common_steps, Contains-there, modes_from n (base + 1) k)

pattern_there : (s : Settings) (n k : ℕ) → s.pattern_starts ≡ Some n → k < n
    → Contains (table_modes s) (Anchored.Pattern k)
pattern_there s n k e h =
    let front = if has_unanchored s.start_kind then Anchored.No ∷ [] else [] in
    let second = if has_anchored s.start_kind then Anchored.Yes ∷ [] else [] in
    let number : 0 + k ≡ k = omega arith in
    Contains-append_right (front ++ second) (pattern_start_modes s.pattern_starts) (Anchored.Pattern k)
    (subst (λ o. Contains (pattern_start_modes o) (Anchored.Pattern k)) (sym e)
    (subst (λ i. Contains (pattern_modes n) (Anchored.Pattern i)) number (modes_from n 0 k h)))

-- ---- machines

-- A machine whose searches end well: from each start, and from the starts of patterns past the last at once.
pub record StartsWell {R : Type 0} (m : Machine R) (In : R → Type 0) (s : Settings) : Type 0 where
  pub ends : EndsWell m In
  pub inside : (mode : Anchored) (start : Start) → In (m.entry mode start)
  pub past_last : (n k : ℕ) (start : Start) → s.pattern_starts ≡ Some n → n ≤ k
      → IsSilent m (m.entry (Anchored.Pattern k) start)

module _ {R S : Type 0} {m : Machine R} {n : Machine S} {In : R → Type 0} {On : S → Type 0} {r : Settings}
    (left : StartsWell m In r) (right : StartsWell n On r)
    (labels : SameLabels (Contains (table_modes r)) m n) where
  there_alike : (mode : Anchored) (start : Start) → Contains (table_modes r) mode
      → Alike m n In On (m.entry mode start) (n.entry mode start)
  there_alike mode start c = search rules

  pattern_alike : (k : ℕ) (start : Start) (o : Option ℕ) → r.pattern_starts ≡ o → is_some o ≡ true
      → Alike m n In On (m.entry (Anchored.Pattern k) start) (n.entry (Anchored.Pattern k) start)
  pattern_alike k start None e h = absurd (cc)
  pattern_alike k start (Some len) e h =
      ⊎_elim (λ (l : k < len). there_alike (Anchored.Pattern k) start (pattern_there r len k e l))
      (λ (l : len ≤ k). silent_alike (left.inside (Anchored.Pattern k) start) (right.inside (Anchored.Pattern k) start)
      (left.past_last len k start e l) (right.past_last len k start e l))
      (cases_lt k len)

  starts_alike : (mode : Anchored) (start : Start) → supports r.start_kind (is_some r.pattern_starts) mode ≡ true
      → Alike m n In On (m.entry mode start) (n.entry mode start)
  starts_alike Anchored.No start e = there_alike Anchored.No start (unanchored_there r e)
  starts_alike Anchored.Yes start e = there_alike Anchored.Yes start (anchored_there r e)
  starts_alike (Anchored.Pattern k) start e = pattern_alike k start r.pattern_starts refl e

  module _ {s : Settings} (same : SameSettings s r) (direction : Direction) (q : Query)
      (bytes : AreBytes q.haystack) where
    byte : (b : ℕ) → beside direction q ≡ Some b → b < 256
    byte b e = beside_is_byte direction q b bytes e

    refused : start_error s (beside direction q) q.mode ≡ start_error r (beside direction q) q.mode
    refused = error_alike s r same (beside direction q) q.mode byte

    row : start_row m s (beside direction q) q.mode ≡ start_row m r (beside direction q) q.mode
    row = ap (m.entry q.mode) (context_alike s r same (beside direction q) byte)

    begun_alike : start_error r (beside direction q) q.mode ≡ None
        → Alike m n In On (start_row m r (beside direction q) q.mode) (start_row n r (beside direction q) q.mode)
    begun_alike is =
        starts_alike q.mode (start_context r (beside direction q)) (started r (beside direction q) q.mode is).supported

    pub half_alike : half_search m s direction q ≡ half_search n r direction q
    half_alike =
        elim (begins r direction q) [
          | Done past ↦ grind (arith, common_steps, half_done, lt-ltb)
          | Refused order error is ↦ grind (arith, common_steps, half_refused, going, refused)
          | Started order is ↦
              half_walks m s direction q (going q order) (refused ∙ is)
              ∙ ap (λ x. walk m direction q.earliest x (first_offset direction q) None (units_of direction q)) row
              ∙ walk_alike left.ends right.ends direction q.earliest (begun_alike is) (units_of direction q)
              (units_word direction q bytes) (first_offset direction q) None
              ∙ sym (half_walks n r direction q (going q order) is)
        ]

    pub overlapping_search_alike : overlapping m s direction q ≡ overlapping n r direction q
    overlapping_search_alike =
        elim (begins r direction q) [
          | Done past ↦ grind (arith, common_steps, overlapping_done, lt-ltb)
          | Refused order error is ↦ grind (arith, common_steps, overlapping_refused, going, refused)
          | Started order is ↦
              overlapping_walks m s direction q (going q order) (refused ∙ is)
              ∙ ap (λ x. overlapping_walk m direction x (first_offset direction q) (units_of direction q)) row
              ∙ overlapping_alike left.ends right.ends direction (begun_alike is) (units_of direction q)
              (units_word direction q bytes) (first_offset direction q)
              ∙ sym (overlapping_walks n r direction q (going q order) is)
        ]
