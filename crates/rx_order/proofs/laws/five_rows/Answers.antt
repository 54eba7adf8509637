use Rattle.rx_spec.proofs.Prelude.{common_steps, cases_eq, cases_lt, ◌≡◌, ℕ, ◌+◌, ◌<◌, ◌≤◌, ◌∙◌, Bool, true}
use Rattle.rx_spec.proofs.Prelude.{if◌then◌else◌, not, nat_le, nat_lt, slice_index, refl, subst, arith, lit<, list_all}
use Rattle.rx_spec.proofs.Prelude.{range_with_len, get_or-range_with_len}
use Rattle.std.proofs.lemmas.Bool.{cases_Bool}
use Rattle.rx_order.proofs.Prelude.{five_ends, five_kinds}
use Rattle.std.proofs.lemmas.List.Sums.{AllPass-from_list_all}
use Rattle.rx_order.proofs.laws.five_rows.Goals as goal

-- whether a row lies before the end of a kind exactly if its kind is no higher
agree : (row kind : ℕ) → Bool
agree row kind =
    let kept : Bool = nat_le (slice_index five_kinds row) kind in
    if nat_lt row (slice_index five_ends kind) then kept else not kept

each : (row : ℕ) → row < 5 → list_all (agree row) (range_with_len 0 8) ≡ true
unfolding agree
each row h = grind (arith, common_steps, cases_eq, cases_lt)

same : (a b : Bool) → (if a then b else not b) ≡ true → a ≡ b
same a b e = grind (arith, common_steps, cases_Bool)

pub returns : goal.returns
unfolding agree
returns c = record {
  two = lit< tt;
  dead = refl;
  quit = refl;
  others = others;
  within = within;
  to_end = λ row kind h low.
      let passes = AllPass-from_list_all (agree row) (range_with_len 0 8) (each row h) kind 0 low in
      let first : 0 + kind ≡ kind = omega arith in
      let at : slice_index (range_with_len 0 8) kind ≡ kind = get_or-range_with_len 0 8 kind 0 low ∙ first in
      same (nat_lt row (slice_index five_ends kind)) (nat_le (slice_index five_kinds row) kind)
      (subst (λ k. agree row k ≡ true) at passes);
}
  where
    others : (row : ℕ) → 1 < row → row < 5 → 1 < slice_index five_kinds row
    others row h low = grind (arith, common_steps, cases_eq, cases_lt)

    within : (kind : ℕ) → kind < 8 → slice_index five_ends kind ≤ 5
    within kind h = grind (arith, common_steps, cases_eq, cases_lt)
