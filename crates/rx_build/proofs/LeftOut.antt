-- The starts of modes that a build leaves out are dead: in a powerset machine, where rows are joined, and where
-- they lie at other places.
use Rattle.rx_spec.proofs.Prelude.{◌≡◌, ℕ, zero, suc, ◌<◌, false, List, length, slice_index, refl, sym, ap, ◌∙◌, arith}
use Rattle.rx_spec.proofs.Prelude.{inl, inr, cases_eq, true≢false, get_or-map, Build, built_entry, dead, label_after}
use Rattle.rx_spec.proofs.Prelude.{IsWord, IsPower, node_at, Anchored, supports, dead_state, Table, IsTable}
use Rattle.rx_spec.specs.Builds as builds
use Rattle.rx_spec.specs.declared.Start.{Start}
use Rattle.rx_lemmas.proofs.SilentRows.{zero_is_silent}
use Rattle.rx_dense.specs.Layouts.{Layout, table_of}
use Rattle.rx_minimize.specs.Minimized.{IsMinimized}
use Rattle.rx_order.specs.Ordering.{IsAccelerated}
use Rattle.rx_build.specs.Built.{AreLeftOut}

-- ---- a powerset machine

-- the row of the dead node is row 0
dead_row : (t : Table) (b : Build) (by : IsPower t b) (row : ℕ) → row < t.size → node_at by.states row ≡ dead → row ≡ 0
dead_row t b by zero h e = refl
dead_row t b by (suc zero) h e = absurd (cc)
dead_row t b by (suc (suc i)) h e =
    let low : i < length by.states = omega (arith, by.size) in
    let alive = (by.reached.only i dead_state low).alive in
    let here = get_or-map (λ s. builds.Running s) by.states i dead_state dead low in
    absurd (true≢false (ap builds.is_dead (sym e ∙ here) ∙ alive))

left_out_entry : (b : Build) (mode : Anchored) (start : Start)
    → supports b.start_kind b.pattern_starts mode ≡ false → built_entry b mode start ≡ dead
left_out_entry b mode start e = rw e refl

pub power_left_out : (b : Build) (l : Layout) → IsTable (table_of l) → IsPower (table_of l) b → AreLeftOut b l
power_left_out b l is by mode start e =
    dead_row (table_of l) b by ((table_of l).machine.entry mode start) (is.entries mode start)
    (by.entries mode start ∙ left_out_entry b mode start e)

-- ---- rows joined

-- a row that tells nothing is row 0, since a word tells it apart from any other
pub joined_left_out : (b : Build) (old new : Layout) → IsTable (table_of old) → IsTable (table_of new)
    → IsMinimized old new → AreLeftOut b old → AreLeftOut b new
joined_left_out b old new was is m left mode start e =
    let entry : ℕ = (table_of new).machine.entry mode start in
    let none = zero_is_silent (table_of new) is in
    let before = zero_is_silent (table_of old) was in
    let silent = λ (word : List ℕ) (w : IsWord word).
    m.same mode tt start word w
    ∙ ap (λ row. label_after (table_of old).machine row word) (left mode start e) ∙ before.plain word w in
    elim (cases_eq entry 0) [
      | inl same ↦ same
      | inr other ↦ (
          let two = is.two in
          let told = m.apart entry 0 (is.entries mode start) (omega (arith, two)) other in
          absurd (told.differ (silent told.word told.is_word ∙ sym (none.plain told.word told.is_word))))
    ]

-- ---- rows at other places

pub moved_left_out : (b : Build) (old new : Layout) → IsAccelerated old new → AreLeftOut b old → AreLeftOut b new
moved_left_out b old new a left mode start e =
    a.permuted.entries mode start ∙ ap (λ row. slice_index a.numbers row) (left mode start e) ∙ a.permuted.dead
