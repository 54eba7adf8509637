-- Shuffled tables: the match rows lie in the order of their ids, so their patterns are the lists of the map in its
-- order.
use Rattle.std.proofs.lemmas.Bool.{cases_Bool}
use Rattle.rx_spec.proofs.Prelude.{rules, ◌≡◌, ℕ, zero, suc, ◌+◌, ◌-◌, ◌*◌, ◌/◌, ◌<◌, ◌≤◌, ◌⊎◌, ◌==◌, ◌&&◌, Bool, true}
use Rattle.rx_spec.proofs.Prelude.{false, if◌then◌else◌, Option, Some, None, List, [], ◌∷◌, length, map, slice_index}
use Rattle.rx_spec.proofs.Prelude.{get_or, Vec, Global, refl, ap, ap₂, sym, ◌∙◌, subst, ⊎_elim, arith, common_steps}
use Rattle.rx_spec.proofs.Prelude.{get, is_at, keys, list_any, range_with_len, IsStrictlyIncreasing, keys_of, values_of}
use Rattle.rx_spec.proofs.Prelude.{nat_cmp, Contains, is_some, All, vec_items, cases_eq, cases_lt, eq-eqb, eqb-true}
use Rattle.rx_spec.proofs.Prelude.{false≢true, ne_eqb, lt-ltb, le-ltb, get_or-map-range_with_len}
use Rattle.rx_spec.proofs.Prelude.{length-map-range_with_len, mul-le, row_fits, and-false, mul-div_cancel, length-map}
use Rattle.rx_spec.proofs.Prelude.{get_or_default, Label, All-contains, Anchored, IsSound, IsTable, Table}
use Rattle.rx_order.proofs.Prelude.{AreMatches, AreRanked, IsPermuted, IsRouted, IsShuffled, Layout, Matches, Start}
use Rattle.rx_order.proofs.Prelude.{context_number, is_match_row, is_start_row, label_by, label_of_patterns, machine_of}
use Rattle.rx_order.proofs.Prelude.{mode_place, pattern_lists, quotient, row-below, row_count, start_is_row}
use Rattle.rx_order.proofs.Prelude.{start_within, stride, table_of, with_patterns}
use Rattle.std.specs.BTreeMap.{IsOrdered}
use Rattle.std.specs.List.{slice_get}
use Rattle.std.proofs.lemmas.Map.Entries.{length-keys_of, length-values_of, place_from_lookup}
use Rattle.std.proofs.lemmas.Map.Keys.{IsStrictlyIncreasing-from_sorted, below_from_sorted}
use Rattle.std.proofs.lemmas.Map.Keys.{sorted_from_strictly_increasing}
use Rattle.rx_lemmas.proofs.Firsts.{Contains-cases, Contains-here, Contains-nil, Contains-there}
use Rattle.rx_dense.proofs.MatchMaps.{any_contains, any_has, has_key, is_at_number}
use Rattle.rx_order.proofs.Moved.{factor}
use Rattle.rx_order.proofs.MatchRows.{HasPatterns, label_at, joined}
use Rattle.rx_order.proofs.ExchangedRows.{count_of, places_apart, row_below}
use Rattle.rx_order.proofs.KindNumbers.{high_kind, kind_accels, kind_high, kind_matches, same_test}
use Rattle.rx_order.proofs.Ordered.{IsArranged, Sorting, before_end, behind_end, end, end_within, high_at, high_kind_is}
use Rattle.rx_order.proofs.Ordered.{specials, accel_id, ordered, permuted, size_same, start_is, kind_at, kind_is}
use Rattle.rx_order.proofs.Ordered.{kind_of_number, low_kind, low_row, number, quit, row_at, some, IsArranging}
use Rattle.rx_order.proofs.Ordered.{arranged, patterns_given}
use Rattle.rx_order.proofs.Reordered.{numbers, zero_div, number_below, number_of_place, entry_below, next_below}
use Rattle.rx_order.proofs.Reordered.{row_at_number, two_rows}
use Rattle.rx_order.proofs.Runs.{no_needles, permuted_moved}
use Rattle.rx_order.proofs.Sound.{frame, sound, universal_below}
use Rattle.rx_order.proofs.KindRanges.{is_between, no_accels}

-- ---- lists that rise

-- what rises and has the same members is the same
pub same_rising : (xs ys : List ℕ) → IsStrictlyIncreasing xs → IsStrictlyIncreasing ys
    → ((z : ℕ) → Contains xs z → Contains ys z) → ((z : ℕ) → Contains ys z → Contains xs z) → xs ≡ ys
same_rising [] [] up down there back = refl
same_rising [] (y ∷ ys) up down there back = absurd (Contains-nil y (back y (Contains-here y ys)))
same_rising (x ∷ xs) [] up down there back = absurd (Contains-nil x (there x (Contains-here x xs)))
same_rising (x ∷ xs) (y ∷ ys) up down there back =
    ap₂ (λ (z : ℕ) (zs : List ℕ). z ∷ zs) first
    (same_rising xs ys (rest x xs up) (rest y ys down)
    (λ z c. past (λ e. absurd (omega (arith, least x xs up z c, e, first)))
    (Contains-cases y ys z (there z (Contains-there x xs z c))))
    (λ z c. past (λ e. absurd (omega (arith, least y ys down z c, e, first)))
    (Contains-cases x xs z (back z (Contains-there y ys z c)))))
  where
    least : (x : ℕ) (xs : List ℕ) → IsStrictlyIncreasing (x ∷ xs) → (z : ℕ) → Contains xs z → x < z
    least x xs up z c =
        let low = c.1 in
        let at = below_from_sorted (x ∷ xs) 0 (suc c.0) z (sorted_from_strictly_increasing (x ∷ xs) up) (omega arith)
        (omega arith) in
        subst (λ v. x < v) c.2 at

    rest : (x : ℕ) (xs : List ℕ) → IsStrictlyIncreasing (x ∷ xs) → IsStrictlyIncreasing xs
    rest x xs up k h =
        let next : suc k + 1 ≡ suc (k + 1) = omega arith in
        subst (λ j. slice_index (x ∷ xs) (suc k) < slice_index (x ∷ xs) j) next (up (suc k) (omega (arith, h)))

    past : {A B : Type 0} → (A → B) → A ⊎ B → B
    past f o = ⊎_elim f (λ b. b) o

    first : x ≡ y
    first =
        ⊎_elim
        (λ (e : y ≡ x). sym e)
        (λ (c : Contains ys x).
        ⊎_elim
        (λ (e : x ≡ y). e)
        (λ (d : Contains xs y). absurd (omega (arith, least y ys down x c, least x xs up y d)))
        (Contains-cases x xs y (back y (Contains-here y ys))))
        (Contains-cases y ys x (there x (Contains-here x xs)))

-- ---- the entries of a map

pub key_there : {X : Type 0} (entries : List (ℕ × X)) (i k : ℕ) (v : X) → slice_get entries i ≡ Some (k, v)
    → (i < length (keys_of entries)) × (slice_index (keys_of entries) i ≡ k)
key_there [] i k v e = absurd (cc)
key_there {X} (entry ∷ entries) zero k v e = grind (arith, common_steps)
key_there (entry ∷ entries) (suc i) k v e =
    let at = key_there entries i k v e in
    (omega (arith, at.0), at.1)

pub list_there : (entries : List (ℕ × Vec ℕ Global)) (i k : ℕ) (v : Vec ℕ Global) → slice_get entries i ≡ Some (k, v)
    → get_or (map vec_items (values_of entries)) i [] ≡ v.items
list_there [] i k v e = absurd (cc)
list_there (entry ∷ entries) zero k v e = grind (arith, common_steps)
list_there (entry ∷ entries) (suc i) k v e = list_there entries i k v e

-- ---- what labels say

not_quits : (o : Option (Vec ℕ Global)) → label_of_patterns o ≡ Label.Quits → ⊥
not_quits o e = grind (arith, common_steps)

quits_apart : (ks : List ℕ) → Label.Quits ≡ Label.Matches ks → ⊥
quits_apart ks e = cc

found_list : (o : Option (Vec ℕ Global)) (ks : List ℕ) → label_of_patterns o ≡ Label.Matches ks
    → (v : Vec ℕ Global) × (o ≡ Some v) × (v.items ≡ ks)
found_list None ks e = absurd (cc)
found_list (Some v) ks e = (v, refl, cc)

-- ---- a table that is shuffled

-- no search starts in a match row
pub plain : {old : Layout} {matches : Matches} → AreMatches old matches → (row : ℕ)
    → is_match_row old matches row ≡ true → is_start_row old row ≡ false
plain {old} are row e = search (rules, false≢true, and-false, any_contains)

-- by the kinds of its rows
abbrev pub sorting : (old : Layout) (matches : Matches) (kinds rows ends : List ℕ) → Sorting
sorting old matches kinds rows ends = record {
  kinds = kinds;
  rows = rows;
  ends = ends;
  marked = true;
  matches = is_match_row old matches;
  accelerated = λ row. false;
}

-- by what the call learns of a table and what its calls leave, with the patterns that were given
pub record IsShuffle (old : Layout) (matches : Matches) (x : Sorting) (ranks : List ℕ) (next new m : Layout)
    : Type 0 where
  pub are : AreMatches old matches
  pub ordered : IsOrdered nat_cmp matches
  pub marked : x.marked ≡ true
  pub matches_are : x.matches ≡ is_match_row old matches
  pub none_accelerated : x.accelerated ≡ (λ row. false)
  pub arranging : IsArranging x old (pattern_lists matches) next new m
  pub accels : m.accels ≡ new.accels
  -- match rows keep their order
  pub ranked : AreRanked x.kinds ranks x.rows
  pub match_ranks : (row : ℕ) → row < row_count old → slice_index x.kinds row ≡ 2 → slice_index ranks row ≡ row

module _ {old : Layout} {matches : Matches} {x : Sorting} {ranks : List ℕ} {next new m : Layout}
    (s : IsShuffle old matches x ranks next new m) where
  abbrev a : IsArranged x (with_patterns old (pattern_lists matches)) new m
  a = arranged s.arranging

  match_at : (row : ℕ) → x.matches row ≡ is_match_row old matches row
  match_at row = ap (λ (f : ℕ → Bool). f row) s.matches_are

  -- a row whose id is a key
  key_row : (id : ℕ) (v : Vec ℕ Global) → get nat_cmp matches id ≡ Some v
      → (id / stride old < row_count old) × (1 < id / stride old) × (id / stride old * stride old ≡ id)
  key_row id v e =
      let at = s.are.rows id v e in
      let whole = quotient id (stride old) at.0.whole in
      let some_stride = some a in (
        row-below old id at.0,
        ⊎_elim
            (λ (h : 1 < id / stride old). h)
            (λ (h : id / stride old ≤ 1).
            let low = mul-le (id / stride old) (stride old) 1 (stride old) h (omega arith) in
            absurd (omega (arith, low, whole, at.1)))
            (cases_lt 1 (id / stride old)),
        whole,
      )

  matched : (row : ℕ) (v : Vec ℕ Global) → get nat_cmp matches (row * stride old) ≡ Some v → x.matches row ≡ true
  matched row v e = match_at row ∙ ap (λ (o : Option (Vec ℕ Global)). is_some o) e

  -- the kind of match rows
  two_kind : (b c : Bool) → 1 < high_kind b false c → high_kind b false c ≤ 3 → (b ≡ true) × (high_kind b false c ≡ 2)
  two_kind b c low high = grind (arith, common_steps, cases_Bool)

  -- match rows lie up to where they end
  match_place : (place : ℕ) → 2 ≤ place → place < end a 3 → (x.matches (row_at a place) ≡ true) × (kind_at a place ≡ 2)
  match_place place low high =
      let at = before_end a place 3 (omega arith) high in
      let kind = high_kind_is a place at.0 low
      ∙ ap (λ (f : ℕ → Bool). high_kind (x.matches (row_at a place)) (f (row_at a place)) (is_start_row old
      (row_at a place)))
      s.none_accelerated in
      let above = high_at a place at.0 low in
      let is = two_kind (x.matches (row_at a place)) (is_start_row old (row_at a place)) (omega (arith, kind, above))
      (omega (arith, kind, at.1)) in
      (is.0, kind ∙ is.1)

  place_match : (row : ℕ) → row < row_count old → 1 < row → x.matches row ≡ true
      → (2 ≤ number a row) × (number a row < end a 3)
  place_match row h high e =
      let below = number_below a.reordered a.before row h in
      let back = row_at_number a.reordered a.before row h in
      let kind : kind_at a (number a row) ≡ high_kind true false (is_start_row old row) =
      ap (slice_index x.kinds) back ∙ a.kinds.kinds_are row h
      ∙ kind_high row (x.matches row) (x.accelerated row) (is_start_row old row) high
      ∙ ap₂ (λ (b : Bool) (f : ℕ → Bool). high_kind b (f row) (is_start_row old row)) e s.none_accelerated in (
        ⊎_elim
            (λ (past : 1 < number a row). past)
            (λ (low : number a row ≤ 1). absurd (omega (arith, low_kind a (number a row) low, kind)))
            (cases_lt 1 (number a row)),
        ⊎_elim
            (λ (within : number a row < end a 3). within)
            (λ (past : end a 3 ≤ number a row).
            absurd (omega (arith, behind_end a (number a row) 3 below (omega arith) past, kind)))
            (cases_lt (number a row) (end a 3)),
      )

  -- Their ranks are their numbers, and no two places have one row.
  rise : (low high : ℕ) → low < high → high < row_count old
      → slice_index x.kinds (row_at a low) ≡ 2 → slice_index x.kinds (row_at a high) ≡ 2
      → row_at a low < row_at a high
  rise low high l h first second =
      let order = a.before.order in
      let ranks_rise = s.ranked low high (omega arith) (omega (arith, count_of order)) (first ∙ sym second) in
      let below = row_below order low (omega arith) in
      let behind = row_below order high h in
      let apart : row_at a low ≡ row_at a high → ⊥ = λ e.
      absurd (omega (arith, places_apart order low high (omega arith) h e)) in
      omega (arith, ranks_rise, s.match_ranks _ below first, s.match_ranks _ behind second, apart)

  -- the ids of the match rows, in their order
  ids : List ℕ
  ids = map (λ i. row_at a (i + 2) * stride old) (range_with_len 0 (end a 3 - 2))

  ids_count : length ids ≡ end a 3 - 2
  unfolding ids
  ids_count = length-map-range_with_len (λ i. row_at a (i + 2) * stride old) 0 (end a 3 - 2)

  id_at : (i d : ℕ) → i < end a 3 - 2 → get_or ids i d ≡ row_at a (i + 2) * stride old
  unfolding ids
  id_at i d h = search (rules, get_or-map-range_with_len, row_at, end)

  ids_rise : IsStrictlyIncreasing ids
  ids_rise i h =
      let next : i + 1 + 2 ≡ i + 2 + 1 = omega arith in
      let more : i + 1 < end a 3 - 2 = omega (arith, ids_count) in
      let first = match_place (i + 2) (omega arith) (omega arith) in
      let second = match_place (i + 1 + 2) (omega arith) (omega arith) in
      let within = end_within a 3 (omega arith) in
      let rises : row_at a (i + 2) < row_at a (i + 1 + 2) =
      rise (i + 2) (i + 1 + 2) (omega arith) (omega arith) first.1 second.1 in
      let at = id_at i 0 (omega arith) in
      let behind = id_at (i + 1) 0 more in
      omega (
        arith,
        at,
        behind,
        row_fits (row_at a (i + 2)) (stride old) (row_at a (i + 1 + 2)) (stride old) rises (omega arith),
        some a,
      )

  keys_are : keys matches ≡ ids
  keys_are =
      same_rising (keys matches) ids (IsStrictlyIncreasing-from_sorted (keys matches) s.ordered) ids_rise there back
    where
      there : (z : ℕ) → Contains (keys matches) z → Contains ids z
      there z c = found (get nat_cmp matches z) refl
        where
          found : (o : Option (Vec ℕ Global)) → get nat_cmp matches z ≡ o → Contains ids z
          found None e =
              let no : list_any (λ y. y == z) (keys matches) ≡ false =
              sym (has_key z matches.entries) ∙ ap (λ (o : Option (Vec ℕ Global)). is_some o) e in
              absurd (false≢true (sym no ∙ any_has z (keys matches) c))
          found (Some v) e =
              let row : ℕ = z / stride old in
              let at = key_row z v e in
              let here : get nat_cmp matches (row * stride old) ≡ Some v =
              ap (get nat_cmp matches) at.2 ∙ e in
              let inside = place_match row at.0 at.1 (matched row v here) in
              let i : ℕ = number a row - 2 in
              let place : i + 2 ≡ number a row = omega (arith, inside.0) in
              let below : i < end a 3 - 2 = omega (arith, inside.0, inside.1) in (
                i,
                omega (arith, ids_count),
                id_at i z below ∙ ap (λ p. row_at a p * stride old) place
                    ∙ ap (λ r. r * stride old) (row_at_number a.reordered a.before row at.0) ∙ at.2,
              )

      back : (z : ℕ) → Contains ids z → Contains (keys matches) z
      back z c =
          let i : ℕ = c.0 in
          let below : i < end a 3 - 2 = omega (arith, ids_count, c.1) in
          let is : row_at a (i + 2) * stride old ≡ z = sym (id_at i z below) ∙ c.2 in
          let own = match_place (i + 2) (omega arith) (omega arith) in
          let has : list_any (λ y. y == row_at a (i + 2) * stride old) (keys matches) ≡ true =
          sym (has_key (row_at a (i + 2) * stride old) matches.entries) ∙ sym (match_at (row_at a (i + 2))) ∙ own.0 in
          subst (Contains (keys matches)) is (any_contains (row_at a (i + 2) * stride old) (keys matches) has)

  lists_count : length (pattern_lists matches) ≡ end a 3 - 2
  lists_count = grind (arith, common_steps, length-map, length-values_of, length-keys_of, keys_are, ids_count)

  pub has_patterns : HasPatterns x.ends m (pattern_lists matches)
  has_patterns = patterns_given s.arranging lists_count

  -- the list of a row's patterns
  list_is : (row : ℕ) (v : Vec ℕ Global) → get nat_cmp matches (row * stride old) ≡ Some v → row < row_count old
      → get_or (pattern_lists matches) (number a row - 2) [] ≡ v.items
  list_is row v e h =
      let found = place_from_lookup (is_at (nat_cmp (row * stride old))) matches.entries v e in
      let i : ℕ = found.0 in
      let key : ℕ = found.1 in
      let there = found.2 in
      let same : key ≡ row * stride old =
      eqb-true key (row * stride old) (sym (is_at_number (row * stride old) key) ∙ found.3) in
      let at = key_there matches.entries i key v there in
      let below : i < end a 3 - 2 = omega (arith, at.0, ap length keys_are, ids_count) in
      let id : row_at a (i + 2) * stride old ≡ row * stride old =
      sym (id_at i 0 below) ∙ ap (λ xs. slice_index xs i) (sym keys_are) ∙ at.1 ∙ same in
      let own : row_at a (i + 2) ≡ row = factor (some a) (row_at a (i + 2)) row id in
      let within = end_within a 3 (omega arith) in
      let place : number a row ≡ i + 2 =
      ap (number a) (sym own) ∙ number_of_place a.reordered a.before (i + 2) (omega arith) in
      let index : number a row - 2 ≡ i = omega (arith, place) in
      ap (λ j. get_or (pattern_lists matches) j []) index ∙ list_there matches.entries i key v there

  -- ---- labels

  get_low : (row : ℕ) → row ≤ 1 → get nat_cmp matches (row * stride old) ≡ None
  get_low row low = by_get (get nat_cmp matches (row * stride old)) refl
    where
      by_get : (o : Option (Vec ℕ Global)) → get nat_cmp matches (row * stride old) ≡ o → o ≡ None
      by_get None e = refl
      by_get (Some v) e =
          let at = key_row (row * stride old) v e in
          let same : row * stride old / stride old ≡ row = mul-div_cancel row (some a) in
          absurd (omega (arith, at.1, same))

  same_quit : (row : ℕ) → row < row_count old → (number a row == 1) ≡ (row == 1)
  same_quit row h =
      same_test
      (λ e. sym (row_at_number a.reordered a.before row h) ∙ ap (row_at a) e ∙ low_row a 1 (omega arith))
      (λ e. ap (number a) e ∙ quit a)

  pub told : (row : ℕ) → row < row_count old → (table_of m).machine.label (number a row) ≡ label_by old matches row
  told row h =
      let o : Option (Vec ℕ Global) = get nat_cmp matches (row * stride old) in
      let below = number_below a.reordered a.before row h in
      let kind : is_between 1 3 (kind_at a (number a row)) ≡ is_some o =
      ap (is_between 1 3) (kind_of_number a row h)
      ∙ kind_matches row (x.matches row) (x.accelerated row) (is_start_row old row)
      (λ low. match_at row ∙ ap (λ (o : Option (Vec ℕ Global)). is_some o) (get_low row low))
      ∙ match_at row in
      label_at (specials a) has_patterns (number a row) (omega (arith, below, size_same a))
      ∙ ap₂ (λ (q b : Bool). if q then Label.Quits
      else (if b then Label.Matches (get_or (pattern_lists matches) (number a row - 2) []) else Label.Plain))
      (same_quit row h) kind
      ∙ ap (λ label. if row == 1 then Label.Quits else label) (by_get o refl)
    where
      by_get : (o : Option (Vec ℕ Global)) → get nat_cmp matches (row * stride old) ≡ o
          → (if is_some o then Label.Matches (get_or (pattern_lists matches) (number a row - 2) []) else Label.Plain)
          ≡ label_of_patterns o
      by_get o e = search (rules, list_is, row)

  -- ---- what is left

  no_accelerated : (row : ℕ) → row < row_count m → (table_of m).is_accelerated row ≡ false
  no_accelerated row h =
      let low : row < row_count old = omega (arith, size_same a) in
      let none = ap (λ (f : ℕ → Bool). f (row_at a row)) s.none_accelerated in
      accel_id a row low ∙ ap (is_between 2 5) (kind_is a row low)
      ∙ kind_accels (row_at a row) (x.matches (row_at a row)) (x.accelerated (row_at a row))
      (is_start_row old (row_at a row)) (λ first. none)
      ∙ none

  pub shuffled : IsShuffled old matches m
  shuffled = record {
    numbers = numbers a.reordered a.before;
    permuted = (let p = permuted a in search rules);
    labels = told;
    ordered = ordered a;
    marked = λ row h.
        start_is a row (omega (arith, size_same a)) ∙ ap (λ b. b && is_start_row m row) s.marked;
    unaccelerated = no_accels (specials a) no_accelerated;
    joined = joined (specials a) has_patterns;
    rest =
        frame a
        ∙ ap (λ (accels : List (List ℕ)). record old {
          words = m.words;
          starts = m.starts;
          slices = m.slices;
          pattern_ids = m.pattern_ids;
          special = m.special;
          accels = accels;
        })
        (s.accels ∙ ap (λ (k : Layout). k.accels) a.reordered.is
        ∙ ap (λ (k : Layout). k.accels) a.reordered.moved.rest);
  }

  -- ---- soundness

  -- no search starts in a match row
  get_start : (mode : Anchored) (start : Start)
      → get nat_cmp matches ((machine_of old).entry mode start * stride old) ≡ None
  get_start mode start =
      ⊎_elim
      (λ (has : mode_place mode < length old.starts). by_get has (get nat_cmp matches (row * stride old)) refl)
      (λ (none : length old.starts ≤ mode_place mode).
      let first : row ≡ 0 = ap (λ b. (if b then slice_index old.starts place else 0) / stride old) (le-ltb _ _ none)
      ∙ zero_div a.reordered a.before in
      get_low row (omega (arith, first)))
      (cases_lt (mode_place mode) (length old.starts))
    where
      row : ℕ
      row = (machine_of old).entry mode start

      place : ℕ
      place = mode_place mode + context_number start

      by_get : mode_place mode < length old.starts → (o : Option (Vec ℕ Global))
          → get nat_cmp matches ((machine_of old).entry mode start * stride old) ≡ o → o ≡ None
      by_get has None e = refl
      by_get has (Some v) e =
          let id : ℕ = slice_index old.starts (mode_place mode + context_number start) in
          let l : Layout = with_patterns old (pattern_lists matches) in
          let is = start_is_row l a.before.are_starts mode start has in
          let own : (machine_of old).entry mode start * stride old ≡ id =
          ap (λ b. (if b then id else 0) / stride old * stride old) (lt-ltb _ _ has)
          ∙ quotient id (stride old) is.whole in
          let within = start_within l a.before.are_starts mode start has in
          absurd ((s.are.rows ((machine_of old).entry mode start * stride old) v e).2 (
            mode_place mode + context_number start,
            within,
            get_or_default old.starts (mode_place mode + context_number start)
                ((machine_of old).entry mode start * stride old) 0 within
                ∙ sym own,
          ))

  label_high : (row : ℕ) → (row ≡ 1 → ⊥)
      → label_by old matches row ≡ label_of_patterns (get nat_cmp matches (row * stride old))
  label_high row ne = grind (arith, common_steps, ne_eqb)

  -- a row that tells patterns has a list
  label_found : (row : ℕ) (ks : List ℕ) → label_by old matches row ≡ Label.Matches ks
      → (v : Vec ℕ Global) × (get nat_cmp matches (row * stride old) ≡ Some v) × (v.items ≡ ks)
  label_found row ks e =
      ⊎_elim
      (λ (one : row ≡ 1).
      absurd (quits_apart ks (sym (ap (λ b. if b then Label.Quits
      else label_of_patterns (get nat_cmp matches (row * stride old))) (eq-eqb row 1 one)) ∙ e)))
      (λ (ne : row ≡ 1 → ⊥).
      found_list (get nat_cmp matches (row * stride old)) ks (sym (label_high row ne) ∙ e))
      (cases_eq row 1)

  -- the table that is meant, before its rows move
  abbrev meant : Table
  meant = record (table_of old) { machine = record (machine_of old) { label = label_by old matches } }

  meant_is : IsRouted (table_of old) → IsTable meant
  meant_is routed = record {
    two = two_rows a.reordered a.before;
    entries = entry_below a.reordered a.before;
    universal_unanchored = λ row e. universal_below old a.before.are_rows.whole old.universal_unanchored row e;
    universal_anchored = λ row e. universal_below old a.before.are_rows.whole old.universal_anchored row e;
    nexts = next_below a.reordered a.before;
    past_last = routed.past_last;
    dead_only = λ row h. refl;
    dead_label = ap label_of_patterns (get_low 0 (omega arith));
    dead_stays = routed.dead_stays;
    quit_label = refl;
    quit_ends = routed.quit_ends;
    quit_only = λ row h e.
        ⊎_elim
        (λ (one : row ≡ 1). one)
        (λ (ne : row ≡ 1 → ⊥). absurd (not_quits (get nat_cmp matches (row * stride old)) (sym
        (label_high row ne) ∙ e)))
        (cases_eq row 1);
    lists = λ row h e.
        let found = label_found row [] e in
        let many = s.are.lists (row * stride old) found.0 found.1 in
        omega (arith, many.0, ap length found.2);
  }

  pub shuffled_sound : IsRouted (table_of old) → IsSound (table_of m)
  shuffled_sound routed =
      let p = permuted a in
      let moved : IsPermuted (numbers a.reordered a.before) meant (table_of m) = search rules in
      sound a (permuted_moved (entry_below a.reordered a.before) (next_below a.reordered a.before) moved told).names
      (record {
        is_table = meant_is routed;
        eoi_goes_on = routed.eoi_goes_on;
        starts_plain = λ mode start.
            label_high ((machine_of old).entry mode start) (routed.starts mode start)
            ∙ ap label_of_patterns (get_start mode start);
        patterns = λ row ks k h e c.
            let found = label_found row ks e in
            let each = (s.are.lists (row * stride old) found.0 found.1).1 in
            All-contains (λ k. k < old.pattern_len) ks k (subst (All (λ k. k < old.pattern_len)) found.2 each) c;
      })
      refl refl (no_needles (table_of m) no_accelerated)
