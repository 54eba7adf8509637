-- Over a build of the kind All an overlapping search tells exactly the ends of all patterns.
use Rattle.std.proofs.lemmas.Grind.{common_steps}
use Rattle.rx_spec.proofs.Prelude.{◌≡◌, ◌≢◌, ℕ, zero, suc, ◌+◌, ◌<◌, ◌≤◌, ◌==◌, ◌&&◌, Bool, true, false, if◌then◌else◌}
use Rattle.rx_spec.proofs.Prelude.{Option, Some, None, List, [], ◌∷◌, refl, ap, sym, ◌∙◌, subst, arith, ⊎_elim, ◌⊎◌}
use Rattle.rx_spec.proofs.Prelude.{inl, inr, ne_eqb, and_right, cases_eq, Contains-append_left, Contains-append_right}
use Rattle.rx_spec.proofs.Prelude.{Contains-append_cases, Contains, option_or, HalfMatch, first_of, label_of, State}
use Rattle.rx_spec.proofs.Prelude.{decided_rows, cut, step, Node, is_dead_state, power, Item, Ending}
use Rattle.rx_spec.proofs.Prelude.{OverlappingMatches, pattern_items, with_items, at_item_label}
use Rattle.rx_spec.specs.declared.Direction.{Direction}
use Rattle.rx_spec.specs.declared.MatchKind.{MatchKind}
use Rattle.rx_lemmas.proofs.Firsts.{by_test, Contains-there, Contains-cases, Contains-nil}
use Rattle.rx_lemmas.proofs.Overlapping.{state_overlapping, overlapping_dead, overlapping_quits, overlapping_steps}
use Rattle.rx_lemmas.proofs.ReadUnits.{unit_at, units_from, units_from-suc}
use Rattle.rx_lemmas.proofs.SilentRows.{dead_empty}
use Rattle.rx_lemmas.proofs.Walking.{Dead, Quits, Steps, leads}
use Rattle.rx_meaning.proofs.FirstSuccess.{first_of-nil, first_of-cons}
use Rattle.rx_meaning.proofs.Solution.{given, given_none}
use Rattle.rx_meaning.proofs.Closures.{first_given}
use Rattle.rx_meaning.proofs.Scan.{Scan, read_in, valued, StandsAt, step_at, step_stands}
use Rattle.rx_meaning.proofs.Steps.{label_worth, matched, CutsNothing, step_later, step_here}
use Rattle.rx_meaning.proofs.PastOffsets.{walk_past, past_one}

-- ---- first successes of a function with one value

module _ {A : Type 0} (f : A → Option ℕ) (v : ℕ) where
  abbrev pub OneValue : Type 0
  OneValue = (x : A) → (f x ≡ None) ⊎ (f x ≡ Some v)

  pub first_has : OneValue → (xs : List A) (x : A) → Contains xs x → f x ≡ Some v → first_of f xs ≡ Some v
  first_has one [] x c e = absurd (Contains-nil x c)
  first_has one (y ∷ ys) x c e =
      first_of-cons f y ys
      ∙ ⊎_elim
      (λ (none : f y ≡ None). ap (λ (o : Option ℕ). option_or o (first_of f ys)) none
      ∙ ⊎_elim
      (λ (same : y ≡ x). absurd (let no = sym none ∙ ap f same ∙ e in cc))
      (λ (d : Contains ys x). first_has one ys x d e)
      (Contains-cases y ys x c))
      (λ (some : f y ≡ Some v). ap (λ (o : Option ℕ). option_or o (first_of f ys)) some)
      (one y)

  pub has_first : (xs : List A) → first_of f xs ≡ Some v → (x : A) × Contains xs x × (f x ≡ Some v)
  has_first [] e = absurd (let no = sym (first_of-nil f) ∙ e in cc)
  has_first (y ∷ ys) e = by_first (f y) refl (sym (first_of-cons f y ys) ∙ e) (has_first ys)
    where
      by_first : (o : Option ℕ) → f y ≡ o → option_or (f y) (first_of f ys) ≡ Some v
          → (first_of f ys ≡ Some v → (x : A) × Contains ys x × (f x ≡ Some v))
          → (x : A) × Contains (y ∷ ys) x × (f x ≡ Some v)
      by_first None is h rest =
          let later = rest (sym (ap (λ (o : Option ℕ). option_or o (first_of f ys)) is) ∙ h) in
          (later.0, Contains-there y ys later.0 later.1, later.2)
      by_first (Some w) is h rest = grind (arith, common_steps)

  pub first_one : OneValue → (xs : List A) → (first_of f xs ≡ None) ⊎ (first_of f xs ≡ Some v)
  first_one one [] = inl (first_of-nil f)
  first_one one (y ∷ ys) =
      ⊎_elim
      (λ (none : f y ≡ None).
      let on = first_of-cons f y ys ∙ ap (λ (o : Option ℕ). option_or o (first_of f ys)) none in
      ⊎_elim
      (λ (n : first_of f ys ≡ None). inl (on ∙ n))
      (λ (s : first_of f ys ≡ Some v). inr (on ∙ s))
      (first_one one ys))
      (λ (some : f y ≡ Some v). grind (arith, common_steps, first_of-cons, option_or, first_of))
      (one y)

-- ---- one pattern at one place

-- a match of pattern j is worth it, at exactly one place
abbrev pub only : ℕ → ℕ → ℕ → ℕ → Option ℕ
only j place k i = if (k == j) && (i == place) then Some j else None

pub only_one : (j place i : ℕ) → OneValue (λ (k : ℕ). only j place k i) j
only_one j place i k = by_value ((k == j) && (i == place))
  where
    by_value : (b : Bool) → ((if b then Some j else None) ≡ None) ⊎ ((if b then Some j else None) ≡ Some j)
    by_value true = inr refl
    by_value false = inl refl

pub only_other : (j place k i : ℕ) → (i ≡ place → ⊥) → only j place k i ≡ None
only_other j place k i other =
    ap (λ v. if v then Some j else None) (and_right (k == j) (i == place) (ne_eqb i place other))

pub only_here : (j place : ℕ) → only j place j place ≡ Some j
only_here j place = grind (arith, common_steps)

pub only_is : (j place k i : ℕ) → only j place k i ≡ Some j → (k ≡ j) × (i ≡ place)
only_is j place k i e = grind (arith, common_steps, by_test)

-- ---- what the items of a row are

pub patterns_have : (ks : List ℕ) (o : ℕ) (h : HalfMatch) → Contains (pattern_items ks o) (Item.Reported h)
    → Contains ks h.pattern × (o ≡ h.offset)
patterns_have [] o h c = absurd (Contains-nil (Item.Reported h) c)
patterns_have (k ∷ ks) o h c =
    let here : HalfMatch = record { pattern = k; offset = o } in
    ⊎_elim
    (λ (e : Item.Reported here ≡ Item.Reported h). grind (arith, common_steps))
    (λ (d : Contains (pattern_items ks o) (Item.Reported h)).
    let later = patterns_have ks o h d in (Contains-there k ks h.pattern later.0, later.1))
    (Contains-cases (Item.Reported here) (pattern_items ks o) (Item.Reported h) c)

pub have_patterns : (ks : List ℕ) (o j : ℕ) → Contains ks j
    → Contains (pattern_items ks o) (Item.Reported (record { pattern = j; offset = o }))
have_patterns [] o j c = absurd (Contains-nil j c)
have_patterns (k ∷ ks) o j c =
    let item : ℕ → Item = λ i. Item.Reported (record { pattern = i; offset = o }) in
    grind (arith, common_steps)

label_tells_items : (ks : List ℕ) (unit o : ℕ) (later : OverlappingMatches)
    → at_item_label (label_of ks) Direction.Forward unit o later ≡ with_items (pattern_items ks o) later
label_tells_items [] unit o later = refl
label_tells_items (k ∷ ks) unit o later = refl

-- ---- walks

module _ (c : Scan) (all : c.build.kind ≡ MatchKind.All) (j place : ℕ) where
  -- what a state gives for the pattern and the place
  abbrev pub gives : State → ℕ → Option ℕ
  gives s i = first_given (valued c (only j place)) i s.rows

  cuts : (s : State) (i : ℕ) → CutsNothing c.build.nfa c.build.kind s (unit_at (read_in c) i)
  cuts s i =
      ap (λ (kind : MatchKind). cut kind c.build.nfa.rows (decided_rows c.build.nfa (unit_at (read_in c) i) s)) all

  label_all : (s : State) (i : ℕ)
      → (step_at c s i).label ≡ matched c.build.nfa.rows (decided_rows c.build.nfa (unit_at (read_in c) i) s)
  unfolding step
  label_all s i = ap (λ (qs : List ℕ). matched c.build.nfa.rows qs) (cuts s i)

  gives_later : (s : State) (i : ℕ) → StandsAt c s i → i < place → gives (step_at c s i) (i + 1) ≡ gives s i
  gives_later s i at h = step_later c (only j place) i s (cuts s i) (λ k. only_other j place k i (λ e. omega arith)) at

  gives_here : (s : State) → StandsAt c s place
      → gives s place ≡ label_worth (only j place) place (step_at c s place).label
  gives_here s at =
      let none : (q : ℕ) → given (valued c (only j place)) q (place + 1) ≡ None
      = grind (arith, common_steps, given_none, valued, only_other) in
      grind (arith, common_steps, step_here, label_all)

  gives_dead : (s : State) (i : ℕ) → is_dead_state s ≡ true → gives s i ≡ None
  gives_dead s i d = grind (arith, common_steps, first_given, valued, dead_empty, first_of-nil)

  abbrev pub told : State → ℕ → ℕ → OverlappingMatches
  told s i n = state_overlapping c.build Direction.Forward s i (units_from (read_in c) i n)

  abbrev pub item : Item
  item = Item.Reported (record { pattern = j; offset = place })

  -- An item is told exactly where the state gives it.
  pub record Tells (s : State) (i n : ℕ) : Type 0 where
    pub given_told : Contains (told s i n).items item → gives s i ≡ Some j
    pub told_given : gives s i ≡ Some j → Contains (told s i n).items item

  tells_by : (s : State) (i n : ℕ) {m : OverlappingMatches} → told s i n ≡ m
      → (Contains m.items item → gives s i ≡ Some j) → (gives s i ≡ Some j → Contains m.items item) → Tells s i n
  tells_by s i n e f g = record {
    given_told = λ d. f (subst (λ (x : OverlappingMatches). Contains x.items item) e d);
    told_given = λ v. subst (λ (x : OverlappingMatches). Contains x.items item) (sym e) (g v);
  }

  pub tells : (n i : ℕ) (s : State) → StandsAt c s i → i ≤ place → place < i + n → (told s i n).ending ≡ Ending.Ended
      → Tells s i n
  tells zero i s at low high ended = absurd (omega arith)
  tells (suc n) i s at low high ended =
      let unit = unit_at (read_in c) i in
      let units = units_from (read_in c) (i + 1) n in
      let more : told s i (suc n) ≡ state_overlapping c.build Direction.Forward s i (unit ∷ units)
      = ap (state_overlapping c.build Direction.Forward s i) (units_from-suc (read_in c) i n) in
      elim (leads c.build s unit) as (λ l. Tells s i (suc n)) [
        | Dead d ↦
            let over = more ∙ overlapping_dead c.build Direction.Forward s i (unit ∷ units) d in
            grind (arith, common_steps, gives_dead)
        | Quits d q ↦
            absurd (quits_not unit i
            (sym (ap (λ (x : OverlappingMatches). x.ending)
            (more ∙ overlapping_quits c.build Direction.Forward s unit i units d q)) ∙ ended))
        | Steps d q ↦
            let next = step_at c s i in
            let ks = next.label in
            let on : told s i (suc n) ≡ with_items (pattern_items ks i) (told next (i + 1) n)
            = more ∙ overlapping_steps c.build Direction.Forward s unit i units d q
            ∙ label_tells_items ks unit i (told next (i + 1) n) in
            let ended_on = sym (ap (λ (x : OverlappingMatches). x.ending) on) ∙ ended in
            ⊎_elim
            (λ (here : i ≡ place). here_tells s i n at on here)
            (λ (other : i ≢ place).
            let later = tells n (i + 1) next (step_stands c s i) (omega arith) (omega arith)
            ended_on in
            let same = gives_later s i at (omega arith) in
            tells_by s i (suc n) on
            (λ has. ⊎_elim
            (λ (first : Contains (pattern_items ks i) item). absurd (other (patterns_have ks i _ first).1))
            (λ (behind : Contains (told next (i + 1) n).items item). sym same ∙ later.given_told behind)
            (Contains-append_cases (pattern_items ks i) (told next (i + 1) n).items item has))
            (λ v. Contains-append_right (pattern_items ks i) (told next (i + 1) n).items item
            (later.told_given (same ∙ v))))
            (cases_eq i place)
      ]
    where
      quits_not : (unit i : ℕ) → Ending.Quits unit i ≡ Ending.Ended → ⊥
      quits_not unit i e = cc

      here_tells : (s : State) (i n : ℕ) → StandsAt c s i
          → told s i (suc n) ≡ with_items (pattern_items (step_at c s i).label i) (told (step_at c s i) (i + 1) n)
          → i ≡ place → Tells s i (suc n)
      here_tells s i n at on here =
          let next = step_at c s i in
          let ks = next.label in
          let behind = told next (i + 1) n in
          let worth : gives s i ≡ label_worth (only j place) place ks
          = grind (arith, common_steps, label_worth, step_at, gives_here) in
          let past = walk_past (power c.build) (Node.Running next) (i + 1) i (units_from (read_in c) (i + 1) n)
          (omega arith) in
          tells_by s i (suc n) on
          (λ has. ⊎_elim
          (λ (first : Contains (pattern_items ks i) item).
          worth ∙ first_has (λ (k : ℕ). only j place k place) j (only_one j place place) ks j
          (patterns_have ks i _ first).0 (only_here j place))
          (λ (later : Contains behind.items item). grind (arith, common_steps, past_one))
          (Contains-append_cases (pattern_items ks i) behind.items item has))
          (λ v.
          let found = has_first (λ (k : ℕ). only j place k place) j ks (sym worth ∙ v) in
          let is = (only_is j place found.0 place found.2).0 in
          let there = have_patterns ks i j (subst (Contains ks) is found.1) in
          Contains-append_left (pattern_items ks i) behind.items item
          (subst (λ (o : ℕ). Contains (pattern_items ks i) (Item.Reported (record { pattern = j; offset = o }))) here
          there))
