-- How many needles the row of a sound table has; in a powerset machine as many as are counted for its node.
use Rattle.rx_spec.proofs.Prelude.{common_steps, ◌≡◌, ℕ, ◌<◌, ◌≤◌, ◌==◌, ◌&&◌, Bool, true, false, not, List, length}
use Rattle.rx_spec.proofs.Prelude.{refl, ap, ap₂, sym, ◌∙◌, arith, if◌then◌else◌, nat_le, nat_lt, list_any, Build}
use Rattle.rx_spec.proofs.Prelude.{IsPower, node_at, IsSound, Table, leaving}
use Rattle.rx_spec.specs.Sizes.{needle_count}
use Rattle.rx_lemmas.proofs.Firsts.{by_test}
use Rattle.rx_sparse_build.proofs.PowerRows.{leaving_same, some_state}

-- there are three at most
pub needles_few : {t : Table} → IsSound t → (row : ℕ) → row < t.size → length (t.needles row) ≤ 3
needles_few {t} sound row h =
    by_test (t.is_accelerated row)
    (λ yes. sound.few_needles row h yes)
    (λ no. omega (arith, ap length (sound.no_needle row h no)))

-- one to three bytes, and no space
abbrev are_few : List ℕ → Bool
are_few bytes = nat_le 1 (length bytes) && nat_le (length bytes) 3 && not (list_any (λ byte. byte == 32) bytes)

-- how many bytes there are, where they are needles
abbrev count_if : List ℕ → Bool → ℕ
count_if bytes some = if some then length bytes else 0

-- three tests, joined either way
and_both : (x y z : Bool) → (x && (y && z)) ≡ (x && y && z)
and_both true y z = refl
and_both false y z = refl

module _ {t : Table} {b : Build} (p : IsPower t b) (sound : IsSound t) (accelerate : Bool) (row : ℕ) (h : row < t.size)
    (accelerated : t.is_accelerated row ≡ (accelerate && (nat_lt 2 t.size && are_few (leaving t row)))) where
  -- by the row
  counted_by_row : length (t.needles row) ≡ count_if (leaving t row) (t.is_accelerated row)
  counted_by_row =
      by_test (t.is_accelerated row)
      (λ yes. ap length (sound.needles row h yes) ∙ sym (ap (count_if (leaving t row)) yes))
      (λ no. ap length (sound.no_needle row h no) ∙ sym (ap (count_if (leaving t row)) no))

  -- both ways they are as many
  pub needles_counted : length (t.needles row) ≡ needle_count b accelerate p.states (node_at p.states row)
  needles_counted =
      grind (
        arith,
        common_steps,
        counted_by_row,
        and_both,
        ap₂ (λ (some : Bool) (bytes : List ℕ). count_if bytes (accelerate && some && are_few bytes)) (some_state p)
            (leaving_same p sound.is_table row h),
      )
