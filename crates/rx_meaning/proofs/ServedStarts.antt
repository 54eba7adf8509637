-- Tables, and builds, as machines whose searches end well: then a table and the build that it gives are alike, and
-- so are copies.
use Rattle.rx_spec.proofs.Prelude.{arith, ◌≡◌, ℕ, ◌≤◌, Bool, true, false, if◌then◌else◌, Some, None, [], length, refl}
use Rattle.rx_spec.proofs.Prelude.{sym, ◌∙◌, subst, common_steps, slice_get_past, same_Some, Contains, slice_get}
use Rattle.rx_spec.proofs.Prelude.{Anchored, Settings, Build, dead, start_node, built_entry, power, build_settings}
use Rattle.rx_spec.proofs.Prelude.{built_modes, Table, IsTable, SameLabels}
use Rattle.rx_spec.specs.Labels.{table_modes}
use Rattle.rx_spec.specs.declared.Start.{Start}
use Rattle.rx_lemmas.proofs.SilentRows.{IsSilent, IsRow, zero_is_silent, table_ends_well, AnyNode, dead_label}
use Rattle.rx_lemmas.proofs.SilentRows.{power_ends_well}
use Rattle.rx_meaning.specs.Tables.{Serves, HalfOfTable, OverlappingOfTable, HalfOfCopy, OverlappingOfCopy}
use Rattle.rx_meaning.proofs.AlikeSearches.{StartsWell, half_alike, overlapping_search_alike}

-- a table, under settings with as many pattern starts
table_starts_well : (t : Table) (r : Settings) → IsTable t → t.settings.pattern_starts ≡ r.pattern_starts
    → StartsWell t.machine (IsRow t) r
table_starts_well t r is same = record {
  ends = table_ends_well t is;
  inside = is.entries;
  past_last = λ n k start e h.
      subst (λ row. IsSilent t.machine row) (sym (is.past_last n k start (same ∙ e) h)) (zero_is_silent t is);
}

-- a build
power_starts_well : (b : Build) → StartsWell (power b) AnyNode (build_settings b)
power_starts_well b = record {
  ends = power_ends_well b;
  inside = λ mode start. tt;
  past_last = λ n k start e h.
      let silent : IsSilent (power b) dead = record { plain = λ word w. dead_label b word } in
      subst (λ node. IsSilent (power b) node) (sym (past_is_dead n k start e h)) silent;
}
  where
    by_starts : (v : Bool) (n k : ℕ) (start : Start) → (if v then Some (length b.nfa.start_patterns) else None) ≡ Some n
        → n ≤ k → (if v then start_node b.nfa (slice_get b.nfa.start_patterns k) start else dead) ≡ dead
    by_starts true n k start e h = grind (arith, common_steps, same_Some, slice_get_past)
    by_starts false n k start e h = refl

    past_is_dead : (n k : ℕ) (start : Start) → (build_settings b).pattern_starts ≡ Some n → n ≤ k
        → built_entry b (Anchored.Pattern k) start ≡ dead
    past_is_dead n k start e h = by_starts b.pattern_starts n k start e h

-- the modes for which a build has starts
modes_are : (b : Build) → built_modes b ≡ table_modes (build_settings b)
modes_are b = grind (arith, common_steps)

served_labels : (t : Table) (b : Build) → Serves t b
    → SameLabels (Contains (table_modes (build_settings b))) t.machine (power b)
served_labels t b serves mode c start word w = grind (arith, common_steps, modes_are)

pub half_of_table_holds : HalfOfTable
half_of_table_holds t b serves direction q bytes =
    half_alike (table_starts_well t (build_settings b) serves.is_table serves.settings.pattern_starts)
    (power_starts_well b) (served_labels t b serves) serves.settings direction q bytes

pub overlapping_of_table_holds : OverlappingOfTable
overlapping_of_table_holds t b serves direction q bytes =
    overlapping_search_alike (table_starts_well t (build_settings b) serves.is_table serves.settings.pattern_starts)
    (power_starts_well b) (served_labels t b serves) serves.settings direction q bytes

pub half_of_copy_holds : HalfOfCopy
half_of_copy_holds t u c direction q bytes =
    half_alike (table_starts_well t u.settings c.is_table c.settings.pattern_starts)
    (table_starts_well u u.settings c.other_is_table refl) c.labels c.settings direction q bytes

pub overlapping_of_copy_holds : OverlappingOfCopy
overlapping_of_copy_holds t u c direction q bytes =
    overlapping_search_alike (table_starts_well t u.settings c.is_table c.settings.pattern_starts)
    (table_starts_well u u.settings c.other_is_table refl) c.labels c.settings direction q bytes
