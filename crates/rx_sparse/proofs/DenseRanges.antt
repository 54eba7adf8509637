-- The maximal ranges of a row of a dense table: they rise, and lead where its columns lead.
use Rattle.rx_spec.proofs.Prelude.{common_steps, ◌≡◌, ◌⊎◌, inl, inr, ℕ, zero, suc, ◌+◌, ◌-◌, ◌<◌, ◌≤◌, ◌==◌, ◌&&◌, ◌||◌}
use Rattle.rx_spec.proofs.Prelude.{Bool, true, false, not, cond, nat_le, List, [], ◌∷◌, length, map, filter}
use Rattle.rx_spec.proofs.Prelude.{slice_index, get_or, drop, refl, ap, ap₂, sym, ◌∙◌, subst, ⊎_elim, arith}
use Rattle.rx_spec.proofs.Prelude.{length-drop, length-take-le, Contains, slice_range, prefix_len, range_with_len}
use Rattle.rx_spec.proofs.Prelude.{IsStrictlyIncreasing, and_parts, cases_eq, cases_lt, eq-eqb, eqb-true, leb-true}
use Rattle.rx_spec.proofs.Prelude.{ne_eqb, nat_tests, get_or-take, get_or-drop, get_or-map, length-map, Contains-get_or}
use Rattle.rx_spec.proofs.Prelude.{length-range_with_len, IsStrictlyIncreasing-filter}
use Rattle.std.proofs.lemmas.List.Filters.{length-filter_both}
use Rattle.std.proofs.lemmas.List.Folds.{length-prefix_len}
use Rattle.std.proofs.lemmas.List.Sums.{prefix_len-le-length, prefix_len_passes}
use Rattle.rx_lemmas.proofs.Firsts.{by_test, Contains-cases, Contains-here, Contains-there}
use Rattle.rx_lemmas.proofs.Filters.{filter_keeps, filter_tested, filter_within, range_has, range_rises}
use Rattle.rx_lemmas.proofs.Filters.{range_within}
use Rattle.rx_dense.specs.States.{begins_range, is_live, range_end}
use Rattle.rx_dense.proofs.Ranges.{range_end-after, range_end-begins, range_end-within}
use Rattle.rx_sparse.specs.declared.ranges.ClassRange.{ClassRange}
use Rattle.rx_sparse.specs.Rows.{has_class, next_among, no_range}
use Rattle.rx_sparse.specs.Layouts.{AreRanges}
use Rattle.rx_sparse.specs.Sparse.{range_of, ranges_of}

module _ (next_ids : List ℕ) where
  abbrev id_at : ℕ → ℕ
  id_at class = slice_index next_ids class

  abbrev eoi : ℕ
  eoi = length next_ids - 1

  -- a class that begins no range leads where the class before leads
  continued : (c : ℕ) → id_at (c - 1) ≡ id_at c → 0 < c → begins_range next_ids c ≡ false
  continued c e h = ap₂ (λ (x y : Bool). x || not y) (ne_eqb c 0 (omega arith)) (eq-eqb _ _ e)

  -- ---- a range

  module _ (first : ℕ) (h : first + 1 < length next_ids) where
    abbrev there : ℕ → Bool
    there id = id == id_at first

    abbrev classes : List ℕ
    classes = slice_range next_ids first eoi

    abbrev end : ℕ
    end = range_end next_ids first

    count : length classes ≡ eoi - first
    count = length-take-le (eoi - first) (drop first next_ids) (omega (arith, length-drop first next_ids))

    end_is : end ≡ first + prefix_len there classes
    end_is = ap (λ n. first + n) (length-prefix_len there classes)

    -- its classes lead where the first leads
    pub same_row : (c : ℕ) → first ≤ c → c < end → id_at c ≡ id_at first
    same_row c from below =
        let k : ℕ = c - first in
        let low : k < prefix_len there classes = omega (arith, end_is) in
        let inside : k < length classes = omega (arith, prefix_len-le-length there classes) in
        let place : first + k ≡ c = omega arith in
        let class_at : slice_index classes k ≡ id_at (first + k) =
        get_or-take (eoi - first) (drop first next_ids) k 0 (omega (arith, count)) ∙ get_or-drop first next_ids k 0 in
        ap id_at (sym place) ∙ sym class_at ∙ eqb-true _ _ (prefix_len_passes there classes k 0 low)

    -- none of them but the first begins a range
    inner : (c : ℕ) → first < c → c < end → begins_range next_ids c ≡ false
    inner c from below =
        continued c (same_row (c - 1) (omega arith) (omega arith) ∙ sym (same_row c (omega arith) below)) (omega arith)

    -- it goes on as long as the classes lead there
    goes_on : (c : ℕ) → first ≤ c → c < eoi → ((k : ℕ) → first ≤ k → k ≤ c → id_at k ≡ id_at c) → c < end
    goes_on c from below alike =
        ⊎_elim
        (λ (low : c < end). low)
        (λ (high : end ≤ c).
        let after = range_end-after next_ids first h in
        let begins = range_end-begins next_ids first h (omega arith) in
        let none =
        continued end (alike (end - 1) (omega arith) (omega arith) ∙ sym (alike end (omega arith) high))
        (omega arith) in
        absurd (cc))
        (cases_lt c end)

  -- ---- all ranges

  abbrev is_first : ℕ → Bool
  is_first class = begins_range next_ids class && is_live next_ids class

  abbrev firsts : List ℕ
  firsts = filter is_first (range_with_len 0 eoi)

  module _ (f : ℕ) (has : Contains firsts f) where
    first_low : f + 1 < length next_ids
    first_low =
        let within = range_within 0 eoi f (filter_within is_first (range_with_len 0 eoi) f has) in
        let low : f < 0 + eoi = within.1 in
        omega arith

    first_begins : begins_range next_ids f ≡ true
    first_begins =
        (and_parts (begins_range next_ids f) (is_live next_ids f)
        (filter_tested is_first (range_with_len 0 eoi) f has)).0

  -- the first class of those before one that lead to the same row
  begin_of : (c : ℕ) → (f : ℕ) × (f ≤ c) × (begins_range next_ids f ≡ true)
      × ((k : ℕ) → f ≤ k → k ≤ c → id_at k ≡ id_at c)
  begin_of zero = grind (arith, common_steps)
  begin_of (suc c) =
      ⊎_elim
      (λ (e : id_at c ≡ id_at (suc c)).
      let before = begin_of c in
      let goes : (k : ℕ) → before.0 ≤ k → k ≤ suc c → id_at k ≡ id_at (suc c) =
      λ k low high. ⊎_elim
      (λ (less : k < suc c). before.3 k low (omega arith) ∙ e)
      (λ (more : suc c ≤ k). (let last : k ≡ suc c = omega arith in ap id_at last))
      (cases_lt k (suc c)) in
      (before.0, (let low = before.1 in omega arith), before.2, goes))
      (λ (ne : id_at c ≡ id_at (suc c) → ⊥).
      let other : (id_at (suc c - 1) == id_at (suc c)) ≡ false =
      ap (λ b. id_at b == id_at (suc c)) (omega arith) ∙ ne_eqb _ _ ne in
      let begins : begins_range next_ids (suc c) ≡ true =
      ap₂ (λ (x y : Bool). x || not y) (ne_eqb (suc c) 0 (λ z. omega arith)) other in
      let alone : (k : ℕ) → suc c ≤ k → k ≤ suc c → id_at k ≡ id_at (suc c) =
      λ k low high. (let e : k ≡ suc c = omega arith in ap id_at e) in
      (suc c, omega arith, begins, alone))
      (cases_eq (id_at c) (id_at (suc c)))

  -- ---- where a class leads

  -- the first range of some that has a class, where all that have it lead to one row
  found : (fs : List ℕ) (c v : ℕ)
      → ((f : ℕ) → Contains fs f → has_class c (range_of next_ids f) ≡ true → id_at f ≡ v)
      → ((f : ℕ) × Contains fs f × (has_class c (range_of next_ids f) ≡ true)) ⊎ (v ≡ 0)
      → next_among (map (range_of next_ids) fs) c ≡ v
  unfolding next_among
  found [] c v all some = grind (arith, common_steps)
  found (f ∷ fs) c v all some =
      by_test (has_class c (range_of next_ids f))
      (λ yes. rw yes (all f (Contains-here f fs) yes))
      (λ no.
      ap (λ b. cond b (id_at f) (next_among (map (range_of next_ids) fs) c)) no
      ∙ found fs c v (λ g has. all g (Contains-there f fs g has))
      (⊎_elim
      (λ (one : (g : ℕ) × Contains (f ∷ fs) g × (has_class c (range_of next_ids g) ≡ true)).
      ⊎_elim
      (λ (here : f ≡ one.0).
      absurd (let yes = subst (λ g. has_class c (range_of next_ids g) ≡ true) (sym here) one.2 in cc))
      (λ (later : Contains fs one.0). inl (one.0, later, one.2))
      (Contains-cases f fs one.0 one.1))
      (λ (e : v ≡ 0). inr e)
      some))

  pub led : (c : ℕ) → c < eoi → next_among (ranges_of next_ids) c ≡ id_at c
  led c h =
      found firsts c (id_at c)
      (λ f has yes.
      let parts = and_parts (nat_le f c) (nat_le c (range_end next_ids f - 1)) yes in
      let low = leb-true f c parts.0 in
      let high = leb-true c (range_end next_ids f - 1) parts.1 in
      let after = range_end-after next_ids f (first_low f has) in
      sym (same_row f (first_low f has) c low (omega arith)))
      (⊎_elim
      (λ (dead : id_at c ≡ 0). inr dead)
      (λ (live : id_at c ≡ 0 → ⊥).
      let run = begin_of c in
      let f : ℕ = run.0 in
      let same : id_at f ≡ id_at c = run.3 f (omega arith) run.1 in
      let is_live_there : is_live next_ids f ≡ true = ap not (ne_eqb _ _ (λ z. live (sym same ∙ z))) in
      let kept : is_first f ≡ true = ap₂ (λ (x y : Bool). x && y) run.2 is_live_there in
      let has : Contains firsts f =
      filter_keeps is_first (range_with_len 0 eoi) f (range_has 0 eoi f (omega arith) (omega arith)) kept in
      let beyond = goes_on f (first_low f has) c run.1 h run.3 in
      let low : nat_le f c ≡ true = grind (arith, nat_tests) in
      let high : nat_le c (range_end next_ids f - 1) ≡ true = grind (arith, nat_tests) in
      inl (f, has, ap₂ (λ (x y : Bool). x && y) low high))
      (cases_eq (id_at c) 0))

  -- ---- the ranges rise

  range_at : (i : ℕ) → i < length firsts
      → get_or (ranges_of next_ids) i no_range ≡ range_of next_ids (get_or firsts i 0)
  range_at i h = get_or-map (range_of next_ids) firsts i 0 no_range h

  firsts_few : length firsts ≤ eoi
  firsts_few =
      omega (
        arith,
        length-filter_both is_first (λ class. not (is_first class)) (λ class. refl) (range_with_len 0 eoi),
        length-range_with_len 0 eoi,
      )

  firsts_rise : IsStrictlyIncreasing firsts
  firsts_rise = IsStrictlyIncreasing-filter is_first (range_with_len 0 eoi) (range_rises 0 eoi)

  ranges_count : length (ranges_of next_ids) ≡ length firsts
  ranges_count = length-map firsts (range_of next_ids)

  pub ranges_few : length (ranges_of next_ids) ≤ eoi
  ranges_few = omega (arith, ranges_count, firsts_few)

  module _ (i : ℕ) (h : i < length (ranges_of next_ids)) where
    low : i < length firsts
    low = omega (arith, ranges_count)

    abbrev first_class : ℕ
    first_class = get_or firsts i 0

    has : Contains firsts first_class
    has = Contains-get_or firsts i 0 low

    is_range : get_or (ranges_of next_ids) i no_range ≡ range_of next_ids first_class
    is_range = range_at i low

    -- it leads where its first class leads
    pub range_next : (get_or (ranges_of next_ids) i no_range).next ≡ id_at first_class
    range_next = ap (λ (r : ClassRange). r.next) is_range

    pub range_first : first_class < length next_ids
    range_first = (let h = first_low first_class has in omega arith)

    range_last : (get_or (ranges_of next_ids) i no_range).last ≡ range_end next_ids first_class - 1
    range_last = ap (λ (r : ClassRange). r.last) is_range

    range_begins : (get_or (ranges_of next_ids) i no_range).first ≡ first_class
    range_begins = ap (λ (r : ClassRange). r.first) is_range

  module _ (classes : List ℕ) (alphabet : slice_index classes 255 + 2 ≡ length next_ids)
      (few : length next_ids ≤ 257) where
    pub are_ranges : AreRanges classes (ranges_of next_ids)
    are_ranges = record {
      few = omega (arith, ranges_count, firsts_few);
      ordered = λ i h.
          omega (arith, range_last i h, range_begins i h, range_end-after next_ids _ (first_low _ (has i h)));
      within = λ i h. omega (arith, range_last i h, range_end-within next_ids _ (first_low _ (has i h)));
      rising = λ i h.
          let at : i < length (ranges_of next_ids) = omega arith in
          let f : ℕ = get_or firsts i 0 in
          let g : ℕ = get_or firsts (i + 1) 0 in
          let rises : f < g = firsts_rise i (omega (arith, ranges_count)) in
          let apart : range_end next_ids f ≤ g = ⊎_elim
          (λ (inside : g < range_end next_ids f).
          let none = inner f (first_low f (has i at)) g rises inside in
          let begins = first_begins g (has (i + 1) h) in
          absurd (cc))
          (λ (behind : range_end next_ids f ≤ g). behind)
          (cases_lt g (range_end next_ids f)) in
          omega (
            arith,
            range_last i at,
            range_begins (i + 1) h,
            range_end-after next_ids f (first_low f (has i at)),
          );
    }
