use Rattle.rx_spec.proofs.Prelude.{common_steps, cases_eq, cases_lt, ◌≡◌, ℕ, ◌<◌, [], ◌∷◌, map, refl, arith, lit<}
use Rattle.rx_order.proofs.Prelude.{last_first, new_id, place_of, three_renamed, three_rows}
use Rattle.rx_order.specs.Renaming.{row_at}
use Rattle.rx_order.proofs.laws.three_rows.Goals as goal

each_row : (row : ℕ) → row < 3
    → row_at three_renamed (place_of last_first row) ≡ map (new_id last_first) (row_at three_rows row)
each_row row h = grind (arith, common_steps, cases_eq, cases_lt)

pub returns-clause-renamed : goal.returns-clause-renamed
returns-clause-renamed c = record {
  permutation = record {
    moves = (0, 1) ∷ (1, 2) ∷ [];
    below = (lit< tt, lit< tt, (lit< tt, lit< tt, tt));
    is = refl;
  };
  count = refl;
  stride2 = refl;
  rows = each_row;
  starts = refl;
}
