-- Entering a state: what is kept where it is new, and what its size passes.
use Rattle.std.proofs.lemmas.Bool.{cases_Bool}
use Rattle.rx_spec.proofs.Prelude.{common_steps, ◌≡◌, ◌≢◌, ℕ, ◌+◌, ◌*◌, ◌/◌, ◌<◌, true, List, [], ◌∷◌, ◌++◌, length}
use Rattle.rx_spec.proofs.Prelude.{get_or, length-append, refl, ap, sym, ◌∙◌, subst, arith, length-map, map-append}
use Rattle.rx_spec.proofs.Prelude.{length_push, get_or-map, get_or_default, length-replicate, div-mul-add, pow_pos}
use Rattle.rx_spec.proofs.Prelude.{div-add-mod', All-append, All-cons, All-nil, All-get_or, All-map, All, AllPairs}
use Rattle.rx_spec.proofs.Prelude.{Contains, IsTrue, ◌↔◌, Bool, false, not, if◌then◌else◌, IsReached, Exceeds, max_id}
use Rattle.rx_spec.proofs.Prelude.{determinizer_size, label_total, table_size, State}
use Rattle.rx_determinize.proofs.Prelude.{AreRows, BuildErrorKind, CanAdd, IsFull, IsOver, IsWithin, IsWorking, Keying}
use Rattle.rx_determinize.proofs.Prelude.{Layout, Met, Passes, Settled, mul-le-mul_left, no_more, row_count, state_size}
use Rattle.rx_determinize.proofs.Prelude.{states_of, stride, with_row}
use Rattle.std.proofs.lemmas.List.Quantifiers.{all_pairs_push}

-- there are fewer keys than ids
pub few_keys : {k : Keying} {settled : Settled} {met : Met} {l : Layout} → IsWorking k settled met l → AreRows l
    → length met.keys < max_id
few_keys {k} {settled} {met} {l} working rows =
    let words : (length met.keys + 2) * stride l ≡ length l.words =
    omega (arith, ap (λ n. n * stride l) working.count) in
    omega (arith, mul-le-mul_left (length met.keys + 1) (pow_pos l.stride2))

-- a table has one row more
pub one_more_row : (l : Layout) → AreRows l → row_count (with_row l) ≡ row_count l + 1
one_more_row l rows =
    let n : ℕ = (row_count l + 1) * stride l in
    let words : length (with_row l).words ≡ n + 0 =
    simp (length-append, length-replicate)
    (omega arith) in
    omega (arith, ap (λ w. w / stride l) words, div-mul-add (row_count l + 1) (stride l) 0 (pow_pos l.stride2))

-- A key is that of a state that wasn't met.
pub record IsNew (k : Keying) (met : Met) (key : List ℕ) : Type 0 where
  pub one_key : (i j : List ℕ) → k.is_key i ≡ true → k.is_key j ≡ true → k.state_of i ≡ k.state_of j → i ≡ j
  pub is_key : k.is_key key ≡ true
  pub reached : IsReached k.build (k.state_of key)
  pub absent : Contains met.keys key → ⊥

abbrev pub met_with : Keying → Met → List ℕ → Met
met_with k met key = record {
  keys = met.keys ++ key ∷ [];
  size = met.size + state_size (k.state_of key);
  patterns = met.patterns + length (k.state_of key).label;
}

module _ {k : Keying} {settled : Settled} {met : Met} {l : Layout} {key : List ℕ}
    (working : IsWorking k settled met l) (new : IsNew k met key) where
  all_states : states_of k (met_with k met key) ≡ states_of k met ++ k.state_of key ∷ []
  all_states = map-append k.state_of met.keys (key ∷ [])

  not_met : (i : ℕ) (d : State) → i < length (states_of k met) → get_or (states_of k met) i d ≢ k.state_of key
  not_met i d within e =
      let lt : i < length met.keys = simp length-map at within in
      let other = get_or met.keys i [] in
      let is_key : k.is_key other ≡ true = All-get_or (λ j. k.is_key j ≡ true) met.keys i [] lt working.are_keys in
      let same : k.state_of other ≡ k.state_of key = sym (get_or-map k.state_of met.keys i [] d lt) ∙ e in
      new.absent (i, lt, get_or_default met.keys i key [] lt ∙ new.one_key other key is_key new.is_key same)

  distinct : AllPairs (λ x y. x ≢ y) (states_of k (met_with k met key))
  distinct =
      subst (AllPairs (λ x y. x ≢ y)) (sym all_states)
      (all_pairs_push (λ x y. x ≢ y) (states_of k met) (k.state_of key) working.distinct not_met)

  reached : All (λ j. IsReached k.build (k.state_of j)) (met.keys ++ key ∷ [])
  reached =
      All-append (λ j. IsReached k.build (k.state_of j)) met.keys (key ∷ []) working.reached
      (All-cons (λ j. IsReached k.build (k.state_of j)) key [] new.reached
      (All-nil (λ j. IsReached k.build (k.state_of j))))

  pub size_is : (met_with k met key).size ≡ determinizer_size (states_of k (met_with k met key))
  size_is = grind (arith, common_steps)

  pub patterns_are : (met_with k met key).patterns ≡ label_total (states_of k (met_with k met key))
  patterns_are = grind (arith, common_steps)

  count : length (states_of k (met_with k met key)) ≡ length met.keys + 1
  count = simp (length-map, length_push) refl

  exceeds : (size : List State → ℕ) (limit : ℕ) → limit < size (states_of k (met_with k met key))
      → Exceeds k.build size limit
  exceeds size limit over = record {
    states = states_of k (met_with k met key);
    some = omega (arith, count);
    distinct = distinct;
    reached = All-map (IsReached k.build) k.state_of (met.keys ++ key ∷ []) reached;
    over = over;
  }

  -- ---- what its row takes

  module _ (rows : AreRows l) where
    words_are : (length met.keys + 2) * stride l ≡ length l.words
    words_are = grind (arith, common_steps, div-add-mod')

    more_words : length (with_row l).words ≡ (length met.keys + 3) * stride l
    more_words = simp (length-append, length-replicate) (omega (arith, words_are))

    pub more_rows : row_count (with_row l) ≡ length (met.keys ++ key ∷ []) + 2
    more_rows =
        let n : ℕ = (length met.keys + 3) * stride l in
        let words : length (with_row l).words ≡ n + 0 = more_words ∙ sym (no_more n) in
        let rows_are : (n + 0) / stride l ≡ length met.keys + 3 =
        div-mul-add (length met.keys + 3) (stride l) 0 (pow_pos l.stride2) in
        omega (arith, ap (λ w. w / stride l) words, length_push met.keys key)

    -- a table that is full
    pub is_over_full : (kind : BuildErrorKind) → IsFull l kind → IsOver k settled l kind
    is_over_full (BuildErrorKind.NFA error) full = full
    is_over_full BuildErrorKind.Unsupported full = full
    is_over_full BuildErrorKind.TooManyStates full =
        exceeds (λ states. (length states + 1) * stride l) max_id
        (rw count (omega (arith, words_are)))
    is_over_full BuildErrorKind.Memory full = tt
    is_over_full _ full = absurd full

    -- a size that passes its limit
    pub is_over : (kind : BuildErrorKind) → Passes settled (met_with k met key) (with_row l) kind
        → IsOver k settled l kind
    is_over (BuildErrorKind.NFA error) passes = passes
    is_over BuildErrorKind.Unsupported passes = passes
    is_over BuildErrorKind.TooManyStates passes = absurd passes
    is_over BuildErrorKind.TooManyMatchPatternIDs passes = exceeds label_total max_id (rw (← patterns_are) passes)
    is_over (BuildErrorKind.DFAExceededSizeLimit limit) passes = (
      passes.0,
      exceeds (λ states. table_size (length states) (stride l) (length l.starts)) limit
          (rw count (let over = passes.1 in omega (arith, more_words))),
    )
    is_over (BuildErrorKind.DeterminizeExceededSizeLimit limit) passes =
        (passes.0, exceeds determinizer_size limit (rw (← size_is) passes.1))
    is_over BuildErrorKind.Memory passes = tt

    -- no size passes its limit
    pub working_more : IsWithin settled (met_with k met key) (with_row l)
        → IsWorking k settled (met_with k met key) (with_row l)
    working_more within = record {
      bare = record {
        slices = working.bare.slices;
        pattern_ids = working.bare.pattern_ids;
        accels = working.bare.accels;
      };
      count = more_rows;
      distinct = distinct;
      are_keys =
          All-append (λ j. k.is_key j ≡ true) met.keys (key ∷ []) working.are_keys
          (All-cons (λ j. k.is_key j ≡ true) key [] new.is_key (All-nil (λ j. k.is_key j ≡ true)));
      reached = reached;
      size = size_is;
      patterns = patterns_are;
      few_patterns = within.patterns;
      table = λ some. within.table;
      construction = λ some. within.construction;
    }

-- ---- as interning answers it

pub is_new_key : (b : Bool) {P : Type 0} → (IsTrue b ↔ P) → not b ≡ false → P
is_new_key b iff e = grind (arith, common_steps, cases_Bool, iff.0)

pub keys_at : (before after : List (List ℕ)) (key : List ℕ) (b : Bool)
    → after ≡ (if b then before ++ key ∷ [] else before) → b ≡ true → after ≡ before ++ key ∷ []
keys_at before after key b keys e = grind (arith, common_steps, cases_Bool)

pub keys_kept : (before after : List (List ℕ)) (key : List ℕ) (b : Bool)
    → after ≡ (if b then before ++ key ∷ [] else before) → b ≡ false → after ≡ before
keys_kept before after key b keys e = grind (arith, common_steps, cases_Bool)

-- what was met, by its parts
abbrev pub met_of : List (List ℕ) → ℕ → ℕ → Met
met_of keys size patterns = record { keys = keys; size = size; patterns = patterns }

pub same_met : {keys others : List (List ℕ)} {size bytes patterns count : ℕ} → keys ≡ others → size ≡ bytes
    → patterns ≡ count → met_of keys size patterns ≡ met_of others bytes count
same_met e f g = cc

pub new_key : {k : Keying} {settled : Settled} {met : Met} {l : Layout} {keys : List (List ℕ)} {key : List ℕ}
    {is_new : Bool}
    → CanAdd k settled met l key → keys ≡ met.keys → (IsTrue is_new ↔ ¬ Contains keys key) → not is_new ≡ false
    → IsNew k met key
new_key {k} {settled} {met} {l} {keys} {key} {is_new} can same new old = record {
  one_key = can.one_key;
  is_key = can.is_key;
  reached = can.reached;
  absent = subst (λ (others : List (List ℕ)). Contains others key → ⊥) same (is_new_key is_new new old);
}

-- the same where the new parts are known by equations
module _ {k : Keying} {settled : Settled} {met : Met} {l : Layout} {key : List ℕ} {after : Met} {m : Layout}
    (working : IsWorking k settled met l) (new : IsNew k met key) (rows : AreRows l)
    (is_after : after ≡ met_with k met key) (is_more : m ≡ with_row l) where
  pub over_new : (kind : BuildErrorKind) → Passes settled after m kind → IsOver k settled l kind
  over_new kind passes =
      is_over working new rows kind
      (subst (λ (n : Layout). Passes settled (met_with k met key) n kind) is_more
      (subst (λ (a : Met). Passes settled a m kind) is_after passes))

  pub working_new : IsWithin settled after m → IsWorking k settled after m
  working_new within =
      subst (λ (n : Layout). IsWorking k settled after n) (sym is_more)
      (subst (λ (a : Met). IsWorking k settled a (with_row l)) (sym is_after)
      (working_more working new rows
      (subst (λ (n : Layout). IsWithin settled (met_with k met key) n) is_more
      (subst (λ (a : Met). IsWithin settled a m) is_after within))))
