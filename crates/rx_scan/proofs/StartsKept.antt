-- Where tokens start: a start that was asked for once is that of each place behind the same byte.
use Rattle.rx_spec.proofs.Prelude.{common_steps, get_or-set_at, ◌==◌, true, ◌≡◌, ◌≢◌, ℕ, suc, ◌-◌, ◌<◌, ◌≤◌, Option}
use Rattle.rx_spec.proofs.Prelude.{Some, List, length, slice_index_or, None, slice_set, ap, sym, ◌∙◌, subst, arith}
use Rattle.rx_spec.proofs.Prelude.{⊎_elim, cases_eq, eq-eqb, not, get_or-set_other, slice_get-get_or, AreBytes, row_of}
use Rattle.rx_spec.proofs.Prelude.{before, Anchored, start_error, start_row, Table}
use Rattle.std.proofs.lemmas.Grind.{get_or_default_zero}
use Rattle.rx_spec.specs.declared.Direction.{Direction}
use Rattle.rx_search.specs.Starts.{IsId, IsStart}
use Rattle.rx_meaning.specs.AllMatches.{query_at}
use Rattle.rx_scan.specs.Starts.{AreStarts}

-- a place behind a byte
pub record IsBehind (text kept : List ℕ) (p : ℕ) : Type 0 where
  pub past : p ≢ 0
  pub within : p ≤ length text
  pub bytes : AreBytes text
  pub whole : length kept ≡ 256

module _ (t : Table) (ids : List ℕ) {text kept : List ℕ} {p : ℕ} (place : IsBehind text kept p)
    (are : AreStarts t ids kept) where
  abbrev byte : ℕ
  byte = slice_index_or text (p - 1) 0

  abbrev StartsHere : ℕ → Type 0
  StartsHere id = IsId ids id × IsStart t Direction.Forward (query_at text p) (row_of ids id)

  here : before text p ≡ Some byte
  here =
      let e : p ≡ suc (p - 1) = omega arith in
      ap (before text) e ∙ slice_get-get_or text (p - 1) 0 (omega arith)

  below : byte < 256
  below = let within = place.within in place.bytes (p - 1) 0 (omega arith)

  there : byte < length kept
  there = let below = below in omega arith

  pub start_behind : (d : ℕ) → not (slice_index_or kept byte d == 0) ≡ true → StartsHere (slice_index_or kept byte d)
  start_behind d some = grind (arith, common_steps, slice_index_or, eq-eqb, get_or_default_zero, here)

  pub start_kept : (id : ℕ) → StartsHere id → AreStarts t ids (slice_set kept byte id)
  start_kept id s b low some =
      ⊎_elim
      (λ (e : b ≡ byte). let is = get_or-set_at kept byte b id 0 e there in
      subst (λ (x : ℕ). (start_error t.settings (Some b) Anchored.Yes ≡ None) × IsId ids x
      × (row_of ids x ≡ start_row t.machine t.settings (Some b) Anchored.Yes)) (sym is)
      (let at : Some b ≡ before text p = ap (λ (x : ℕ). Some x) e ∙ sym here in (
        ap (λ (o : Option ℕ). start_error t.settings o Anchored.Yes) at ∙ s.1.allowed,
        s.0,
        s.1.row_is ∙ sym (ap (λ (o : Option ℕ). start_row t.machine t.settings o Anchored.Yes) at),
      )))
      (λ (other : b ≢ byte). let is = get_or-set_other kept byte b id 0 other in
      subst (λ (x : ℕ). (start_error t.settings (Some b) Anchored.Yes ≡ None) × IsId ids x
      × (row_of ids x ≡ start_row t.machine t.settings (Some b) Anchored.Yes)) (sym is)
      (are b low (λ e. some (is ∙ e))))
      (cases_eq b byte)
