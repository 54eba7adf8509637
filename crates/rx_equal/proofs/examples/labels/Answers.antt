use Rattle.rx_spec.proofs.Prelude.{◌≡◌, [], ◌∷◌, refl, Label, run}
use Rattle.rx_equal.proofs.Closed.{nothing_parts}
use Rattle.rx_equal.proofs.FourRows.{three_closed}
use Rattle.rx_equal.proofs.examples.labels.Goals as goal

first_is_no_second : Label.Matches (0 ∷ []) ≡ Label.Matches (1 ∷ []) → ⊥
first_is_no_second e = cc

order_counts : Label.Matches (0 ∷ 1 ∷ []) ≡ Label.Matches (1 ∷ 0 ∷ []) → ⊥
order_counts e = cc

quit_is_told : Label.Quits ≡ Label.Plain → ⊥
quit_is_told e = cc

pub returns : goal.returns
unfolding run
returns c = record {
  which = (tt, first_is_no_second);
  order = (tt, order_counts);
  no_byte = λ parting. parting.1 refl;
  quit = (tt, quit_is_told);
  silent = nothing_parts (three_closed 0 3 0 [] [] refl refl refl);
}
