-- What each step of a build keeps of a table, and adds to it.
use Rattle.rx_spec.proofs.Prelude.{◌≡◌, ℕ, ◌<◌, ◌&&◌, Bool, true, false, Some, None, if◌then◌else◌, refl, sym, ap, ◌∙◌}
use Rattle.rx_spec.proofs.Prelude.{arith, rules, false≢true, true≢false, and-false, common_steps, Contains, Build}
use Rattle.rx_spec.proofs.Prelude.{built_modes, Nfa, Anchored, IsSound, IsTable}
use Rattle.rx_dense.specs.Builder.{HasUniversalStarts, with_universal_starts}
use Rattle.rx_dense.specs.Layouts.{Layout, row_count, table_of}
use Rattle.rx_spec.specs.declared.Start.{Start}
use Rattle.rx_order.specs.RowOrder.{IsInOrder, IsOrdered, is_marked, is_start_row}
use Rattle.rx_order.specs.Ordering.{IsAccelerated}
use Rattle.rx_order.proofs.ExchangedRows.{row_at_place}
use Rattle.rx_minimize.specs.Minimized.{AnyMode, AreReachedRows, IsMinimized}
use Rattle.rx_meaning.proofs.PowerTables.{power_gives, power_is_reached}
use Rattle.rx_meaning.proofs.Reduced.{reduced_is_least}
use Rattle.rx_build.specs.Built.{AreApart, IsBuilt, begun, build_of}
use Rattle.rx_build.specs.Determinized.{IsDeterminized}
use Rattle.rx_build.specs.Making.{IsMade, determinized, marked_as, minimized}
use Rattle.rx_build.specs.Settings.{Settled}
use Rattle.rx_build.proofs.LeftOut.{joined_left_out, moved_left_out, power_left_out}
use Rattle.rx_order.proofs.Runs.{HasMoved, apart, permuted_moved, reached, same}
use Rattle.rx_build.proofs.PermutedLaws.{moved_power}
use Rattle.rx_build.proofs.StartMarks.{none_accelerated, none_counted, range_kept, unmarked, unmarked_order}
use Rattle.rx_build.proofs.StartMarks.{unmarked_plain, unmarked_row}

module _ {b : Build} {begun : Layout} where
  -- ---- determinized

  pub determinized_made : {l : Layout} → IsDeterminized b begun l → IsMade b determinized begun l
  determinized_made {l} d =
      let is = d.in_order.sound.is_table in
      record {
        gives = power_gives (table_of l) b is d.power;
        reached = λ row high h. power_is_reached (table_of l) b is d.power row high h;
        power = λ e. d.power;
        apart = λ e. absurd (false≢true e);
        left_out = power_left_out b l is d.power;
        in_order = d.in_order;
        plain = λ e. d.plain;
        joined = d.joined;
        accelerated = λ row h. none_accelerated l d.plain row;
        counted = none_counted l d.plain;
        marked = d.marked;
        rest = grind (arith, common_steps, d.rest);
      }

  -- ---- rows joined

  pub minimized_made : {old new : Layout} → IsMade b determinized begun old → IsMinimized old new
      → IsMade b (minimized true) begun new
  minimized_made {old} {new} made m =
      record {
        gives = λ mode built start word w. m.same mode tt start word w ∙ made.gives mode built start word w;
        reached = m.reached (built_modes b) made.reached;
        power = λ e. absurd (true≢false e);
        apart = λ e. m.apart;
        left_out = joined_left_out b old new made.in_order.sound.is_table m.in_order.sound.is_table m made.left_out;
        in_order = m.in_order;
        plain = λ e. m.plain;
        joined = m.joined;
        accelerated = λ row h. none_accelerated new m.plain row;
        counted = none_counted new m.plain;
        marked = λ row h. m.marked row h ∙ kept row h (is_start_row new row) refl;
        rest = grind (arith, common_steps, m.rest, made.rest);
      }
    where
      -- where a search starts in a row behind quit, the start rows were marked
      kept : (row : ℕ) → row < row_count new → (b : Bool) → is_start_row new row ≡ b → (is_marked old && b) ≡ b
      kept row h false e = and-false (is_marked old)
      kept row h true e =
          let from = m.starts row h e in
          let is = sym (made.marked from.0 from.1) ∙ made.in_order.ordered.marks from.0 from.1 in
          sym (ap (λ b. is_marked old && b) from.2) ∙ sym is ∙ from.2

  -- ---- start rows unmarked

  pub unmarked_made : {l : Layout} (minimize : Bool) → IsMade b (minimized minimize) begun l
      → IsMade b (marked_as minimize false) begun (unmarked l)
  unmarked_made {l} minimize made =
      let plain = made.plain refl in
      record {
        gives = made.gives;
        reached = λ row high h. let r = made.reached row high h in search rules;
        power = λ e. let p = made.power e in search rules;
        apart = λ e x y hx hy other. let told = made.apart e x y hx hy other in search rules;
        left_out = made.left_out;
        in_order = unmarked_order l made.in_order plain;
        plain = λ e. unmarked_plain l made.in_order plain;
        joined = record { slices = made.joined.slices; pattern_ids = made.joined.pattern_ids };
        accelerated = made.accelerated;
        counted = made.counted;
        marked = λ row h. unmarked_row l made.in_order plain row;
        rest = ap unmarked made.rest;
      }

  -- ---- rows that are skipped from

  pub accelerated_made : {old new : Layout} (minimize mark : Bool) → IsMade b (marked_as minimize mark) begun old
      → IsAccelerated old new
      → IsMade b (record { minimize = minimize; mark_starts = mark; accelerate = true }) begun new
  accelerated_made {old} {new} minimize mark made a =
      let is = made.in_order.sound.is_table in
      let moved : HasMoved (table_of old) (table_of new) = permuted_moved is.entries is.nexts a.permuted a.labels in
      record {
        gives = λ mode built start word w.
            same moved.names AnyMode mode tt start word w ∙ made.gives mode built start word w;
        reached = reached moved.names (Contains (built_modes b)) made.reached;
        power = λ e. moved_power moved (made.power e);
        apart = λ e. apart moved.names (λ x y hx hy ne. made.apart e x y hx hy (λ o. ne (ap moved.names.name o)));
        left_out = moved_left_out b old new a made.left_out;
        in_order = a.in_order;
        plain = λ e. absurd (true≢false e);
        joined = a.joined;
        accelerated = a.accelerated;
        counted = a.counted;
        marked =
            λ row h.
            let size = a.permuted.size in
            let low : row < row_count old = omega arith in
            let at = row_at_place a.permuted.permutation row low in
            let here = ap (is_start_row new) (sym at.1) ∙ a.starts _ at.0 in
            a.in_order.ordered.marks row h
            ∙ ap (λ (b : Bool). b && is_start_row new row) a.marked
            ∙ ap (λ (b : Bool). is_marked old && b) here
            ∙ sym (made.in_order.ordered.marks _ at.0)
            ∙ made.marked _ at.0
            ∙ ap (λ (b : Bool). mark && b) (sym here);
        rest = grind (arith, common_steps, a.rest, made.rest);
      }

-- ---- universal starts, the last step

common_below : (b c : Bool) (x row size : ℕ) → x < size → (if b then (if c then Some x else None) else None) ≡ Some row
    → row < size
common_below true true x row size h e = let same : x ≡ row = cc in omega arith
common_below true false x row size h e = absurd (cc)
common_below false c x row size h e = absurd (cc)

module _ (s : Settled) (nfa : Nfa) {l : Layout}
    (made : IsMade (build_of s nfa)
    (record { minimize = s.minimize; mark_starts = s.mark_starts; accelerate = s.accelerate }) (begun s nfa) l)
    (has : HasUniversalStarts (table_of (with_universal_starts l))) where
  order_kept : IsInOrder (with_universal_starts l)
  order_kept =
      let sound = made.in_order.sound in
      let is = sound.is_table in
      let ordered = made.in_order.ordered in
      let unanchored : (row : ℕ) → (table_of (with_universal_starts l)).universal_unanchored ≡ Some row
      → row < row_count l =
      λ row e.
      common_below _ _ _ row (row_count l) (is.entries Anchored.No Start.NonWordByte) (sym has.unanchored ∙ e) in
      let anchored : (row : ℕ) → (table_of (with_universal_starts l)).universal_anchored ≡ Some row
      → row < row_count l =
      λ row e.
      common_below _ _ _ row (row_count l) (is.entries Anchored.Yes Start.NonWordByte) (sym has.anchored ∙ e) in
      let is_now : IsTable (table_of (with_universal_starts l)) = search rules in
      let sound_now : IsSound (table_of (with_universal_starts l)) = search rules in
      let ordered_now : IsOrdered (with_universal_starts l) = record {
        kinds = ordered.kinds;
        quit = ordered.quit;
        matches = range_kept l (with_universal_starts l) _ _ refl refl ordered.matches;
        accels = range_kept l (with_universal_starts l) _ _ refl refl ordered.accels;
        starts = range_kept l (with_universal_starts l) _ _ refl refl ordered.starts;
        max = ordered.max;
        marks = ordered.marks;
      } in
      record { sound = sound_now; ordered = ordered_now; few = made.in_order.few }

  reached_kept : AreReachedRows (built_modes (build_of s nfa)) (table_of (with_universal_starts l))
  reached_kept row high h = let r = made.reached row high h in search rules

  apart_kept : s.minimize ≡ true → AreApart (with_universal_starts l)
  apart_kept e x y hx hy other = let told = made.apart e x y hx hy other in search rules

  pub built_with_starts : IsBuilt s nfa (with_universal_starts l)
  built_with_starts = record {
    gives = made.gives;
    reached = reached_kept;
    power = λ e. let p = made.power e in search rules;
    least = λ e.
        reduced_is_least (build_of s nfa) (table_of (with_universal_starts l)) order_kept.sound.is_table
        (record { reached = reached_kept; apart = apart_kept e }) made.gives;
    apart = apart_kept;
    left_out = made.left_out;
    in_order = order_kept;
    joined = record { slices = made.joined.slices; pattern_ids = made.joined.pattern_ids };
    accelerated = made.accelerated;
    counted = made.counted;
    marked = made.marked;
    universal = has;
    universal_ids = refl;
    rest =
        ap (λ (k : Layout). record k {
          universal_unanchored = (with_universal_starts l).universal_unanchored;
          universal_anchored = (with_universal_starts l).universal_anchored;
        }) made.rest;
  }
