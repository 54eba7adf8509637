-- A row of a sound table, and what soundness says of it.
use Rattle.rx_spec.proofs.Prelude.{◌≡◌, ℕ, ◌<◌, true, false, List, [], refl, arith, Label, Table, IsSound}
use Rattle.rx_spec.proofs.Prelude.{is_match_label, AreIds, row_of}
use Rattle.rx_search.specs.Labels.{is_quit_label, label_patterns}
use Rattle.rx_search.specs.Starts.{IsId}

pub record Standing (t : Table) (row : ℕ) : Type 0 where
  pub sound : IsSound t
  pub below : row < t.size

pub standing : {t : Table} {ids : List ℕ} (id : ℕ) → IsSound t → AreIds t.size ids → IsId ids id
    → Standing t (row_of ids id)
standing id sound are is = record { sound = sound; below = (let n = are.count in omega arith) }

-- labels by their tests
pub match_label : (label : Label) → is_match_label label ≡ true → label ≡ Label.Matches (label_patterns label)
match_label (Label.Matches ks) e = refl
match_label Label.Plain e = absurd (cc)
match_label Label.Quits e = absurd (cc)

pub quit_label : (label : Label) → is_quit_label label ≡ true → label ≡ Label.Quits
quit_label Label.Quits e = refl
quit_label Label.Plain e = absurd (cc)
quit_label (Label.Matches ks) e = absurd (cc)

pub plain_label : (label : Label) → is_match_label label ≡ false → is_quit_label label ≡ false → label ≡ Label.Plain
plain_label Label.Plain e f = refl
plain_label (Label.Matches ks) e f = absurd (cc)
plain_label Label.Quits e f = absurd (cc)

-- only a match row tells patterns
pub no_patterns : (label : Label) → is_match_label label ≡ false → label_patterns label ≡ []
no_patterns Label.Plain e = refl
no_patterns Label.Quits e = refl
no_patterns (Label.Matches ks) e = absurd (cc)
