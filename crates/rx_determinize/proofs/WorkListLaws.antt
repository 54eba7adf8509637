-- The loop that enters all states that are reached: what a step keeps, and what holds where it ends.
use Rattle.rx_spec.proofs.Prelude.{common_steps, ◌≡◌, ◌≢◌, ℕ, zero, suc, ◌+◌, ◌<◌, ◌≤◌, Bool, true, false, Some, List}
use Rattle.rx_spec.proofs.Prelude.{[], ◌∷◌, ◌++◌, length, map, get_or, refl, ap, sym, ◌∙◌, subst, arith, ⊎_elim}
use Rattle.rx_spec.proofs.Prelude.{length-map, map-append, All-map, All-append, All-cons, All-nil, cases_lt, cases_Bool}
use Rattle.rx_spec.proofs.Prelude.{slice_get-map, slice_get-get_or, slice_get_within, get_or_from_slice_get, All}
use Rattle.rx_spec.proofs.Prelude.{AllPairs, Contains, slice_get, if◌then◌else◌, MatchBool, Anchored, run, IsWord}
use Rattle.rx_spec.proofs.Prelude.{State, Build, Node, Quit, Running, is_dead_state, next_node, built_entry, IsReached}
use Rattle.rx_spec.proofs.Prelude.{AreReached, Exceeds}
use Rattle.rx_determinize.proofs.Prelude.{AreStartRows, Interns, IsRowOf, IsWord-append, IsWord-cons, IsWord-head}
use Rattle.rx_determinize.proofs.Prelude.{IsWord-nil, IsWord-tail, IsWorkList, next_row, run-append, run-cons, run-nil}
use Rattle.std.specs.Option.{option_map}
use Rattle.rx_spec.specs.declared.Start.{Start}

pub slice_get-append : {X : Type 0} (xs ys : List X) (i : ℕ) (x : X) → slice_get xs i ≡ Some x
    → slice_get (xs ++ ys) i ≡ Some x
slice_get-append [] ys i x there = absurd cc
slice_get-append (z ∷ xs) ys zero x there = there
slice_get-append (z ∷ xs) ys (suc i) x there = slice_get-append xs ys i x there

-- rows stay
pub row_stays : (states more : List State) (node : Node) (row : ℕ) → IsRowOf states node row
    → IsRowOf (states ++ more) node row
row_stays states more node row is_row = grind (arith, common_steps, slice_get-append)

-- a step of a reached state is reached
pub reached_step : {b : Build} {s t : State} (unit : ℕ) → unit < 257 → next_node b (Running s) unit ≡ Running t
    → is_dead_state t ≡ false → IsReached b s → IsReached b t
reached_step {b} {s} {t} unit is_unit e alive r = record {
  mode = r.mode;
  built = r.built;
  start = r.start;
  word = r.word ++ unit ∷ [];
  units = IsWord-append r.word (unit ∷ []) r.units (IsWord-cons unit [] is_unit IsWord-nil);
  leads =
      run-append (next_node b) (built_entry b r.mode r.start) r.word (unit ∷ [])
      ∙ ap (λ (node : Node). run (next_node b) node (unit ∷ [])) r.leads
      ∙ run-cons (next_node b) (Running s) unit [] ∙ run-nil (next_node b) (next_node b (Running s) unit) ∙ e;
  alive = alive;
}

-- a key that was there before others came behind
pub old_key : (keys more : List (List ℕ)) (id : ℕ) (key : List ℕ) → slice_get (keys ++ more) id ≡ Some key
    → id < length keys → slice_get keys id ≡ Some key
old_key keys more id key there lt =
    let here = slice_get-get_or keys id key lt in
    here ∙ (sym (slice_get-append keys more id (get_or keys id key) here) ∙ there)

module _ {b : Build} {state_of : List ℕ → State} {next : ℕ → ℕ → ℕ} {keys : List (List ℕ)} {done : ℕ}
    (work : IsWorkList b state_of next keys done) where
  -- keys behind
  pub more_keys : (more : List (List ℕ)) → All (λ key. IsReached b (state_of key)) more → done ≤ length keys
      → IsWorkList b state_of next (keys ++ more) done
  more_keys more are_reached le = record {
    reached = All-append (λ key. IsReached b (state_of key)) keys more work.reached are_reached;
    steps = λ id key there lt unit is_unit.
        stays (next_node b (Running (state_of key)) unit) (next id unit)
        (work.steps id key (old id key there (omega arith)) lt unit is_unit);
  }
    where
      stays : (node : Node) (row : ℕ) → IsRowOf (map state_of keys) node row
          → IsRowOf (map state_of (keys ++ more)) node row
      stays node row h =
          subst (λ states. IsRowOf states node row) (sym (map-append state_of keys more))
          (row_stays (map state_of keys) (map state_of more) node row h)

      old : (id : ℕ) (key : List ℕ) → slice_get (keys ++ more) id ≡ Some key → id < length keys
          → slice_get keys id ≡ Some key
      old id key there lt =
          let here = slice_get-get_or keys id key lt in
          here ∙ (sym (slice_get-append keys more id (get_or keys id key) here) ∙ there)

  -- a key is interned
  pub interned : {key : List ℕ} {id : ℕ} {after : List (List ℕ)} → Interns keys key id after
      → IsReached b (state_of key)
      → done ≤ length keys → IsWorkList b state_of next after done
  interned {key} {id} {after} interns is_reached le = rw interns.keys (at interns.is_new)
    where
      at : (is_new : Bool) → IsWorkList b state_of next (if is_new then keys ++ key ∷ [] else keys) done
      at true = more_keys (key ∷ []) (All-cons (λ k. IsReached b (state_of k)) key [] is_reached (All-nil (λ k.
          IsReached b (state_of k)))) le
      at false = work

  -- one more state is done
  pub does : {key : List ℕ} (there : slice_get keys done ≡ Some key)
      → ((unit : ℕ) → unit < 257 → IsRowOf (map state_of keys) (next_node b (Running (state_of key)) unit) (next done
      unit))
      → IsWorkList b state_of next keys (done + 1)
  does {key} there known = record {
    reached = work.reached;
    steps = λ id k at lt unit is_unit. ⊎_elim (λ (less : id < done). work.steps id k at less unit is_unit)
        (λ (over : done ≤ id). last id k at (omega arith) unit is_unit) (cases_lt id done);
  }
    where
      last : (id : ℕ) (k : List ℕ) → slice_get keys id ≡ Some k → id ≡ done → (unit : ℕ) → unit < 257
          → IsRowOf (map state_of keys) (next_node b (Running (state_of k)) unit) (next id unit)
      last id k at e unit is_unit = grind (arith, common_steps)

in_false : {Q : Type 0} (P : Type 0) (b : Bool) → b ≡ false → Q → MatchBool b P Q
in_false P b e q = grind (arith, common_steps, cases_Bool)

state_at : (state_of : List ℕ → State) (keys : List (List ℕ)) (id : ℕ) {key : List ℕ} → slice_get keys id ≡ Some key
    → slice_get (map state_of keys) id ≡ Some (state_of key)
state_at state_of keys id there = slice_get-map state_of keys id ∙ ap (option_map state_of) there

-- the row of a state that was interned
pub interned_row : {key : List ℕ} {id : ℕ} {before after : List (List ℕ)} (state_of : List ℕ → State)
    → Interns before key id after → is_dead_state (state_of key) ≡ false
    → IsRowOf (map state_of after) (Running (state_of key)) (suc (suc id))
interned_row {key} {id} {before} {after} state_of interns alive = grind (arith, common_steps, in_false, slice_get-map)

map_at : {X Y : Type 0} (f : X → Y) (xs : List X) (i : ℕ) (y : Y) → slice_get (map f xs) i ≡ Some y
    → (x : X) × (slice_get xs i ≡ Some x) × (f x ≡ y)
map_at f [] i y there = absurd cc
map_at f (x ∷ xs) zero y there = (x, refl, cc)
map_at f (x ∷ xs) (suc i) y there = map_at f xs i y there

at_contains : {X : Type 0} (xs : List X) (i : ℕ) {x : X} → slice_get xs i ≡ Some x → Contains xs x
at_contains xs i {x} there = (i, slice_get_within xs i x there, get_or_from_slice_get xs i x x there)

-- A state's row is that of a key.
record HasKey (state_of : List ℕ → State) (keys : List (List ℕ)) (s : State) (row : ℕ) : Type 0 where
  id : ℕ
  key : List ℕ
  row_is : row ≡ suc (suc id)
  there : slice_get keys id ≡ Some key
  stands : state_of key ≡ s

key_of_row : (state_of : List ℕ → State) (keys : List (List ℕ)) (s : State) (row : ℕ) → is_dead_state s ≡ false
    → IsRowOf (map state_of keys) (Running s) row → HasKey state_of keys s row
key_of_row state_of keys s row alive is_row = grind (arith, common_steps, map_at)

module _ {b : Build} {state_of : List ℕ → State} {next : ℕ → ℕ → ℕ} {keys : List (List ℕ)} {done : ℕ}
    (work : IsWorkList b state_of next keys done) where
  step_row : length keys ≤ done → (node : Node) (row unit : ℕ) → unit < 257 → IsRowOf (map state_of keys) node row
      → IsRowOf (map state_of keys) (next_node b node unit) (next_row next row unit)
  step_row all Quit row unit is_unit is_row = grind (arith, common_steps, map_at)
  step_row all (Running s) row unit is_unit is_row = ⊎_elim dies lives (cases_Bool (is_dead_state s))
    where
      dies : is_dead_state s ≡ true
          → IsRowOf (map state_of keys) (next_node b (Running s) unit) (next_row next row unit)
      dies e = grind (arith, common_steps)

      lives : is_dead_state s ≡ false
          → IsRowOf (map state_of keys) (next_node b (Running s) unit) (next_row next row unit)
      lives e = grind (arith, common_steps, led, key_of_row)
        where
          led : HasKey state_of keys s row
              → IsRowOf (map state_of keys) (next_node b (Running s) unit) (next_row next row unit)
          led t = grind (arith, common_steps, slice_get_within)

  -- every word leads to the row of its node
  pub word_row : length keys ≤ done → (word : List ℕ) → IsWord word → (node : Node) (row : ℕ)
      → IsRowOf (map state_of keys) node row
      → IsRowOf (map state_of keys) (run (next_node b) node word) (run (next_row next) row word)
  unfolding run
  word_row all [] is_word node row is_row = is_row
  word_row all (unit ∷ word) is_word node row is_row =
      word_row all word (IsWord-tail unit word is_word) (next_node b node unit) (next_row next row unit)
      (step_row all node row unit (IsWord-head unit word is_word) is_row)

  -- where all are done, these are the states that are reached
  pub ends : {entry : Anchored → Start → ℕ} → AreStartRows b (map state_of keys) entry → length keys ≤ done
      → AllPairs (λ x y. x ≢ y) (map state_of keys) → AreReached b (map state_of keys)
  ends {entry} starts all distinct = record {
    distinct = distinct;
    only = All-map (IsReached b) state_of keys work.reached;
    all = λ s r.
        let row = run (next_row next) (entry r.mode r.start) r.word in
        let is_row = word_row all r.word r.units (built_entry b r.mode r.start) (entry r.mode r.start)
        (starts r.mode r.start) in
        let t = key_of_row state_of keys s row r.alive
        (subst (λ node. IsRowOf (map state_of keys) node row) r.leads is_row) in
        subst (Contains (map state_of keys)) t.stands
        (at_contains (map state_of keys) t.id (state_at state_of keys t.id t.there));
  }

  -- where a size of these passes a limit, that of all does
  pub exceeds : {size : List State → ℕ} {limit : ℕ} → 0 < length keys → AllPairs (λ x y. x ≢ y) (map state_of keys)
      → limit < size (map state_of keys) → Exceeds b size limit
  exceeds some distinct over = record {
    states = map state_of keys;
    some = simp length-map some;
    distinct = distinct;
    reached = All-map (IsReached b) state_of keys work.reached;
    over = over;
  }
