-- The start entries of one mode after another.
use Rattle.rx_spec.proofs.Prelude.{common_steps, ◌≤◌, ◌≡◌, ℕ, ◌+◌, ◌*◌, true, false, Option, length, ap, sym, ◌∙◌}
use Rattle.rx_spec.proofs.Prelude.{subst, arith, then_some, Contains, IfSome, is_some, slice_get, Node, IsReached}
use Rattle.rx_spec.proofs.Prelude.{built_modes, is_dead_state, start_node, Anchored, has_anchored, has_unanchored}
use Rattle.rx_spec.proofs.Prelude.{start_state}
use Rattle.rx_determinize.proofs.Prelude.{Continues, FindsRow, HasEntries, Layout, StartsAt, Work, keys_in, with_start}
use Rattle.rx_spec.specs.declared.Start.{Start}
use Rattle.rx_determinize.proofs.StartLaws.{SetsStart, anchored_built, anchored_row, pattern_built, pattern_row}
use Rattle.rx_determinize.proofs.StartLaws.{row_reached}

pub starts_later : {w v : Work} {l m : Layout} {mode : Anchored} {row : Option ℕ} → Continues w l v m
    → StartsAt w l mode row → StartsAt v m mode row
starts_later {w} {v} {l} {m} {mode} {row} later at = grind (arith, common_steps)

pub mode_reached : {w : Work} {l : Layout} {mode : Anchored} {row : Option ℕ} (start : Start) → StartsAt w l mode row
    → IfSome row (λ q. is_dead_state (start_state w.stepping.nfa q start) ≡ false
    → IsReached (keys_in w l).build (start_state w.stepping.nfa q start))
mode_reached {w} {l} {mode} {row} start at = row_reached (keys_in w l).build mode start row at.built (at.entry start)

-- the row of a context was found, and then its entry set
pub context_set : {w v : Work} {l m n : Layout} {mode : Anchored} {row : Option ℕ} {start : Start} {id : ℕ}
    → StartsAt w l mode row → FindsRow w l (start_node w.stepping.nfa row start) v m id
    → n ≡ with_start m mode start id → SetsStart w l mode start v n
context_set {w} {v} {l} {m} {n} {mode} {row} {start} {id} at found is = record {
  between = m;
  id = id;
  found = subst (λ (node : Node). FindsRow w l node v m id) (sym (at.entry start)) found;
  is = is;
}

-- ---- the modes

pub starts_at_no : (w : Work) (l : Layout) {row : Option ℕ}
    → row ≡ then_some (has_unanchored l.start_kind) w.stepping.nfa.start_unanchored → StartsAt w l Anchored.No row
starts_at_no w l is = grind (arith, common_steps)

pub starts_at_yes : (w : Work) (l : Layout) {row : Option ℕ}
    → row ≡ then_some (has_anchored l.start_kind) w.stepping.nfa.start_anchored → StartsAt w l Anchored.Yes row
starts_at_yes w l is =
    let b = (keys_in w l).build in
    record {
      entry = λ start. anchored_row b start ∙ ap (λ (o : Option ℕ). start_node w.stepping.nfa o start) (sym is);
      built = subst (λ (o : Option ℕ). IfSome o (λ _. Contains (built_modes b) Anchored.Yes)) (sym is)
          (anchored_built b);
    }

pub starts_at_pattern : (w : Work) (l : Layout) (j : ℕ) {row : Option ℕ} → is_some l.pattern_starts ≡ true
    → row ≡ slice_get w.stepping.nfa.start_patterns j → StartsAt w l (Anchored.Pattern j) row
starts_at_pattern w l j {row} e is =
    let b = (keys_in w l).build in
    record {
      entry = λ start. pattern_row b j start e ∙ ap (λ (o : Option ℕ). start_node w.stepping.nfa o start) (sym is);
      built = pattern_built b j e row (sym is);
    }

-- how many start entries there are
pub entries_with : {l : Layout} {count : ℕ} → HasEntries count l → is_some l.pattern_starts ≡ true
    → length l.starts ≡ 12 + 6 * count
entries_with {l} {count} has e = grind (arith, common_steps)

pub entries_without : {l : Layout} {count : ℕ} → HasEntries count l → is_some l.pattern_starts ≡ false
    → length l.starts ≡ 12
entries_without {l} has e = grind (arith, common_steps)

pub entries_twelve : {l : Layout} {count : ℕ} → HasEntries count l → 12 ≤ length l.starts
entries_twelve {l} has = grind (arith, common_steps)
