-- Start entries that are set, and the states in which searches start.
use Rattle.rx_spec.proofs.Prelude.{cases_lt, common_steps, ◌≡◌, ◌≢◌, ℕ, zero, suc, ◌+◌, ◌*◌, ◌/◌, ◌%◌, ◌<◌, Bool, true}
use Rattle.rx_spec.proofs.Prelude.{false, Option, Some, [], ◌∷◌, ◌++◌, length, get_or, refl, ap, sym, ◌∙◌, subst, arith}
use Rattle.rx_spec.proofs.Prelude.{⊎_elim, cases_eq, Contains-append_right, get_or-map-range_with_len}
use Rattle.rx_spec.proofs.Prelude.{length-map-range_with_len, pow_pos, slice_get_within, Contains, IfSome}
use Rattle.rx_spec.proofs.Prelude.{if◌then◌else◌, nat_lt, slice_get, Build, IsReached, built_entry, built_modes}
use Rattle.rx_spec.proofs.Prelude.{is_dead_state, dead, next_node, start_node, Nfa, then_some, Anchored, has_anchored}
use Rattle.rx_spec.proofs.Prelude.{has_unanchored, start_state}
use Rattle.std.proofs.lemmas.Bool.{cases_Bool}
use Rattle.rx_determinize.proofs.Prelude.{context_at-number, keying, AreWritten, Beginning, Continues, FindsRow}
use Rattle.rx_determinize.proofs.Prelude.{IsEntering, IsRowOf, IsStartedOver, IsWord-nil, IsWorking, Keying, Layout}
use Rattle.rx_determinize.proofs.Prelude.{Met, Settled, Work, context_number, entry_in, initial, keys_in, mode_place}
use Rattle.rx_determinize.proofs.Prelude.{none_met, rows_kept, run-nil, states_of, stride, with_start, zero_at}
use Rattle.std.proofs.lemmas.List.{length-set}
use Rattle.rx_spec.specs.Builds.{pattern_modes}
use Rattle.rx_spec.specs.Contexts.{all_starts as all_contexts}
use Rattle.rx_spec.specs.declared.Start.{Start}
use Rattle.rx_determinize.proofs.CellLaws.{one_place}
use Rattle.rx_determinize.proofs.ContinuesLaws.{continues_over, serves_later}
use Rattle.rx_determinize.proofs.FillingLaws.{written_kept}
use Rattle.rx_dense.proofs.StartNumbers.{context_at as start_at}
use Rattle.rx_lemmas.proofs.HalfSearches.{has_yes}

-- ---- the place of a start entry

group : Anchored → ℕ
group Anchored.No = 0
group Anchored.Yes = 1
group (Anchored.Pattern k) = suc (suc k)

mode_at : ℕ → Anchored
mode_at zero = Anchored.No
mode_at (suc zero) = Anchored.Yes
mode_at (suc (suc k)) = Anchored.Pattern k

place_of_group : (mode : Anchored) → mode_place mode ≡ group mode * 6
unfolding group
place_of_group mode = grind (arith, common_steps)

pub number_low : (start : Start) → context_number start < 6
number_low start = grind (arith, common_steps)

abbrev pub place_of : Anchored → Start → ℕ
place_of mode start = mode_place mode + context_number start

-- each place is that of one mode and one context
one_start : (mode other : Anchored) (start context : Start) → place_of mode start ≡ place_of other context
    → (mode ≡ other) × (start ≡ context)
one_start mode other start context e = grind (arith, common_steps, group, place_of_group, one_place, number_low)

group_of_mode : (n : ℕ) → group (mode_at n) ≡ n
unfolding group mode_at
group_of_mode n = grind (arith, common_steps, cases_eq, cases_lt)

-- the mode and the context of a place
pub start_of_place : (place : ℕ) → (mode : Anchored) × (start : Start) × (place_of mode start ≡ place)
start_of_place place =
    let mode = mode_at (place / 6) in
    let start = start_at (place % 6) in
    let low : place % 6 < 6 = omega arith in (
      mode,
      start,
      omega (arith, place_of_group mode, group_of_mode (place / 6), context_at-number (place % 6) low),
    )

-- ---- an entry that is set

module _ (l : Layout) (mode : Anchored) (start : Start) (id : ℕ) where
  abbrev set_at : Layout
  set_at = with_start l mode start id

  count_kept : length set_at.starts ≡ length l.starts
  count_kept = length-set l.starts (place_of mode start) id

  abbrev chosen : Anchored → ℕ → ℕ → ℕ
  chosen other n x = (if nat_lt (mode_place other) n then x else 0) / stride l

  entry_kept : (other : Anchored) (context : Start) → place_of other context ≢ place_of mode start
      → entry_in set_at other context ≡ entry_in l other context
  entry_kept other context apart = grind (arith, common_steps)

-- a start entry leads to its row
pub record IsStart (k : Keying) (met : Met) (l : Layout) (mode : Anchored) (start : Start) (id : ℕ) : Type 0 where
  pub is_row : IsRowOf (states_of k met) (built_entry k.build mode start) (id / stride l)
  pub place_in : place_of mode start < length l.starts

module _ {k : Keying} {met : Met} {l : Layout} {mode : Anchored} {start : Start} {id : ℕ}
    (leads : IsStart k met l mode start id) where
  starts_more : {done : ℕ} → AreWritten k met l (place_of mode start) done
      → AreWritten k met (with_start l mode start id) (place_of mode start + 1) done
  starts_more {done} old = record {
    within = old.within;
    list = old.list;
    starts = λ other context lt. ⊎_elim
        (λ (e : place_of other context ≡ place_of mode start). here other context (one_start other mode context start
        e))
        (λ (ne : place_of other context ≡ place_of mode start → ⊥).
        subst (IsRowOf (states_of k met) (built_entry k.build other context))
        (sym (entry_kept l mode start id other context ne)) (old.starts other context (omega arith)))
        (cases_eq (place_of other context) (place_of mode start));
    dead_stays = old.dead_stays;
    quit_ends = old.quit_ends;
  }
    where
      here : (other : Anchored) (context : Start) → (other ≡ mode) × (context ≡ start)
          → IsRowOf (states_of k met) (built_entry k.build other context)
          (entry_in (with_start l mode start id) other context)
      here other context same = grind (arith, common_steps)

working_started : {k : Keying} {settled : Settled} {met : Met} (l : Layout) (mode : Anchored) (start : Start)
    (id : ℕ) → IsWorking k settled met l → IsWorking k settled met (with_start l mode start id)
working_started {settled = settled} l mode start id w = grind (arith, common_steps)

started_with : (l : Layout) (mode : Anchored) (start : Start) (id : ℕ) → IsStartedOver l (with_start l mode start id)
started_with l mode start id = record { rest = refl; count = count_kept l mode start id }

-- the start entry is set
entering_started : {w : Work} {l : Layout} {mode : Anchored} {start : Start} {id done : ℕ}
    → IsStart (keys_in w l) w.met l mode start id → IsEntering w l (place_of mode start) done
    → IsEntering w (with_start l mode start id) (place_of mode start + 1) done
entering_started {w} {l} {mode} {start} {id} leads old = record {
  serves =
      serves_later (continues_over w (started_with l mode start id)) old.serves
      (rows_kept l (with_start l mode start id) refl refl refl old.serves.rows)
      (working_started l mode start id old.serves.working);
  written = starts_more leads old.written;
}

-- ---- the modes of a build

pub has_pattern : (b : Build) (k : ℕ) → b.pattern_starts ≡ true → k < length b.nfa.start_patterns
    → Contains (built_modes b) (Anchored.Pattern k)
has_pattern b k e low =
    let front = (if has_unanchored b.start_kind then Anchored.No ∷ [] else []) in
    let middle = (if has_anchored b.start_kind then Anchored.Yes ∷ [] else []) in
    let n = length b.nfa.start_patterns in
    let make = λ (i : ℕ). Anchored.Pattern i in
    let last = (if b.pattern_starts then pattern_modes n else []) in
    let there : Contains (pattern_modes n) (Anchored.Pattern k) = (
      k,
      rw length-map-range_with_len low,
      get_or-map-range_with_len make 0 n k k (Anchored.Pattern k) low (omega
          arith),
    ) in
    Contains-append_right (front ++ middle) last (Anchored.Pattern k)
    (subst (λ (c : Bool). Contains (if c then pattern_modes n else []) (Anchored.Pattern k)) (sym e) there)

-- a state in which a search starts
pub start_reached : (b : Build) (mode : Anchored) (start : Start) (row : ℕ) → Contains (built_modes b) mode
    → built_entry b mode start ≡ start_node b.nfa (Some row) start
    → is_dead_state (start_state b.nfa row start) ≡ false → IsReached b (start_state b.nfa row start)
start_reached b mode start row built is alive = record {
  mode = mode;
  built = built;
  start = start;
  word = [];
  units = IsWord-nil;
  leads = run-nil (next_node b) (built_entry b mode start) ∙ is;
  alive = alive;
}

-- ---- a table that is begun

pub zero_row : (l : Layout) → 0 / stride l ≡ 0
zero_row l = grind (arith, common_steps)

-- it has the dead row and the quit row, which lead to dead
pub working_begun : (k : Keying) (settled : Settled) (b : Beginning) (l : Layout) → l ≡ initial b
    → IsWorking k settled none_met l
working_begun k settled b l is = grind (arith, common_steps, pow_pos)

pub written_begun : (k : Keying) (b : Beginning) (l : Layout) → l ≡ initial b → AreWritten k none_met l 0 0
written_begun k b l is = grind (arith, common_steps, zero_at, zero_row)

-- ---- a start row that was found

module _ {w : Work} {after : Met} {l m : Layout} (mode : Anchored) (start : Start) {id : ℕ}
    (found : FindsRow w l (built_entry (keys_in w l).build mode start) (record w { met = after }) m id) where
  -- a state is entered, and then a start entry set
  set_after : IsEntering w l (place_of mode start) 0 → place_of mode start < length l.starts
      → IsEntering (record w { met = after }) (with_start m mode start id) (place_of mode start + 1) 0
  set_after entering low =
      let same : keys_in w m ≡ keys_in w l = ap (keying w.stepping) found.over in
      let grown : IsEntering (record w { met = after }) m (place_of mode start) 0 = record {
        serves = found.serves;
        written =
            subst (λ (k : Keying). AreWritten k after m (place_of mode start) 0) (sym same)
            (written_kept (keys_in w l) found.grows entering.serves.working
            (subst (λ (k : Keying). IsWorking k w.settled after m) same found.serves.working) entering.written);
      } in
      entering_started
      (record {
        is_row =
            subst (λ (k : Keying). IsRowOf (states_of (keys_in w m) after) (built_entry k.build mode start)
            (id / stride m)) (sym same) found.is_row;
        place_in = omega (arith, ap (λ (k : Layout). length k.starts) found.over);
      })
      grown

-- how an entry is set
pub record SetsStart (w : Work) (l : Layout) (mode : Anchored) (start : Start) (v : Work) (n : Layout) : Type 0 where
  pub between : Layout
  pub id : ℕ
  pub found : FindsRow w l (built_entry (keys_in w l).build mode start) v between id
  pub is : n ≡ with_start between mode start id

module _ {w v : Work} {l n : Layout} {mode : Anchored} {start : Start} (sets : SetsStart w l mode start v n) where
  pub start_set : IsEntering w l (place_of mode start) 0 → place_of mode start < length l.starts
      → IsEntering v n (place_of mode start + 1) 0
  start_set entering low =
      let node = built_entry (keys_in w l).build mode start in
      let found = subst (λ (u : Work). FindsRow w l node u sets.between sets.id) sets.found.same sets.found in
      subst (λ (u : Work). IsEntering u n (place_of mode start + 1) 0) (sym sets.found.same)
      (subst (λ (k : Layout). IsEntering (record w { met = v.met }) k (place_of mode start + 1) 0) (sym sets.is)
      (set_after mode start found entering low))

  pub start_continues : Continues w l v n
  start_continues = grind (arith, common_steps)

-- the state in which a search starts is reached
pub row_reached : (b : Build) (mode : Anchored) (start : Start) (row : Option ℕ)
    → IfSome row (λ _. Contains (built_modes b) mode) → built_entry b mode start ≡ start_node b.nfa row start
    → IfSome row (λ q. is_dead_state (start_state b.nfa q start) ≡ false → IsReached b (start_state b.nfa q start))
row_reached b mode start row built is = grind (arith, common_steps, start_reached)

-- the number of each context, by its place
pub context_at : (i : ℕ) (d : Start) → i < 6 → context_number (get_or all_contexts i d) ≡ i
context_at i d low = grind (arith, common_steps, cases_eq, cases_lt)

-- ---- the rows of modes

no_row : (c : Bool) (nfa : Nfa) (row : ℕ) (start : Start)
    → (if c then start_node nfa (Some row) start else dead) ≡ start_node nfa (then_some c row) start
no_row c nfa row start = grind (arith, common_steps, cases_Bool)

where_some : (c : Bool) (row : ℕ) (P : Type 0) → (c ≡ true → P) → IfSome (then_some c row) (λ _. P)
where_some c row P f = grind (arith, common_steps, cases_Bool)

pub anchored_row : (b : Build) (start : Start) → built_entry b Anchored.Yes start
    ≡ start_node b.nfa (then_some (has_anchored b.start_kind) b.nfa.start_anchored) start
anchored_row b start = no_row (has_anchored b.start_kind) b.nfa b.nfa.start_anchored start

pub anchored_built : (b : Build)
    → IfSome (then_some (has_anchored b.start_kind) b.nfa.start_anchored) (λ _. Contains (built_modes b) Anchored.Yes)
anchored_built b = where_some (has_anchored b.start_kind) b.nfa.start_anchored _ (has_yes b)

pub pattern_row : (b : Build) (k : ℕ) (start : Start) → b.pattern_starts ≡ true
    → built_entry b (Anchored.Pattern k) start ≡ start_node b.nfa (slice_get b.nfa.start_patterns k) start
pattern_row b k start e = grind (arith, common_steps)

pub pattern_built : (b : Build) (k : ℕ) → b.pattern_starts ≡ true → (row : Option ℕ)
    → slice_get b.nfa.start_patterns k ≡ row → IfSome row (λ _. Contains (built_modes b) (Anchored.Pattern k))
pattern_built b k e row is = grind (arith, common_steps, has_pattern, slice_get_within, b.nfa.start_patterns)
