-- Start entries by their numbers: the mode and the context of each.
use Rattle.rx_spec.proofs.Prelude.{common_steps, ◌≡◌, ℕ, zero, suc, ◌+◌, ◌*◌, ◌/◌, ◌%◌, ◌<◌, List, ◌∷◌, length, drop}
use Rattle.rx_spec.proofs.Prelude.{map, slice_index, ap, sym, ◌∙◌, arith, drop-cons, cases_eq, cases_lt}
use Rattle.std.proofs.lemmas.List.{drop_all}
use Rattle.rx_spec.specs.declared.Start.{Start}
use Rattle.rx_base.specs.Search.{mode_of}
use Rattle.rx_base.specs.declared.search.Anchored.{Anchored}
use Rattle.rx_dense.specs.Layouts.{AreStarts, Layout, context_number, mode_place}
use Rattle.rx_dense.specs.States.{starts_of}
use Rattle.rx_dense.proofs.States.{starts_of-len, starts_of-next}

-- a start entry: an id, a mode and a context
abbrev pub Entry : Type 0
Entry = ℕ × Anchored × Start

pub mode_at : ℕ → Anchored
mode_at zero = Anchored.No
mode_at (suc zero) = Anchored.Yes
mode_at (suc (suc k)) = Anchored.Pattern k

pub mode_at-place : (group : ℕ) → mode_place (mode_of (mode_at group)) ≡ 6 * group
unfolding mode_at
mode_at-place group = grind (arith, common_steps, cases_eq, cases_lt)

pub context_at : ℕ → Start
context_at zero = Start.NonWordByte
context_at (suc zero) = Start.WordByte
context_at (suc (suc zero)) = Start.Text
context_at (suc (suc (suc zero))) = Start.LineLF
context_at (suc (suc (suc (suc zero)))) = Start.LineCR
context_at (suc (suc (suc (suc (suc k))))) = Start.CustomLineTerminator

pub context_at-number : (number : ℕ) → number < 6 → context_number (context_at number) ≡ number
unfolding context_at
context_at-number number h = grind (arith, common_steps, cases_eq, cases_lt)

module _ (l : Layout) (starts : AreStarts l) where
  ids_from : (more place : ℕ) → place + more ≡ length l.starts
      → map (λ (e : Entry). e.0) (drop place (starts_of l)) ≡ drop place l.starts
  ids_from zero place h =
      ap (map (λ (e : Entry). e.0)) (drop_all place (starts_of l) (omega (arith, starts_of-len l starts)))
      ∙ sym (drop_all place l.starts (omega arith))
  ids_from (suc more) place h =
      let mode = mode_at (place / 6) in
      let context = context_at (place % 6) in
      let number : place % 6 < 6 = omega arith in
      let next : suc place ≡ place + 1 = omega arith in
      ap (map (λ (e : Entry). e.0))
      (starts_of-next l starts place (omega arith) mode context (mode_at-place (place / 6))
      (context_at-number (place % 6) number))
      ∙ ap (λ (ids : List ℕ). slice_index l.starts place ∷ ids) (ids_from more (place + 1) (omega arith))
      ∙ sym (drop-cons l.starts place 0 (omega arith)
      ∙ ap (λ n. slice_index l.starts place ∷ drop n l.starts) next)

  pub entry_ids : map (λ (e : Entry). e.0) (starts_of l) ≡ l.starts
  entry_ids = ids_from (length l.starts) 0 (omega arith)
