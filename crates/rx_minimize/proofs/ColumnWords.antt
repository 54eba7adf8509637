-- Words of columns and words of units: rows behave alike by both, and are told apart by both.
use Rattle.rx_spec.proofs.Prelude.{common_steps, ◌≡◌, ℕ, ◌<◌, List, [], ◌∷◌, map, refl, sym, ap, ◌∙◌, subst, ⊎_elim}
use Rattle.rx_spec.proofs.Prelude.{arith, Contains, slice_index, IsWord, run, AreToldApart, Table}
use Rattle.rx_minimize.proofs.Prelude.{AreMovesByColumn, BehaveAlike}
use Rattle.rx_lemmas.proofs.Firsts.{Contains-cases, Contains-there, Contains-nil}
use Rattle.rx_lemmas.proofs.Words.{run-nil, run-cons, run-within, IsWord-nil, IsWord-cons, IsWord-head, IsWord-tail}
use Rattle.rx_refine.specs.Moves as moves
use Rattle.rx_refine.specs.Moves.{Moves, label_after, row_after}

module _ (t : Table) (m : Moves) (labels : List ℕ) (column_of : ℕ → ℕ)
    (nexts : (row unit : ℕ) → row < t.size → unit < 257 → t.machine.next row unit < t.size)
    (by : AreMovesByColumn t m labels column_of) where
  -- the columns of a word's units are a word
  columns_word : (word : List ℕ) → IsWord word → moves.IsWord m (map column_of word)
  columns_word [] w column c = absurd (Contains-nil column c)
  columns_word (unit ∷ word) w column c =
      ⊎_elim
      (λ (e : column_of unit ≡ column). subst (λ n. n < m.units) e (by.below unit (IsWord-head unit word w)))
      (λ (d : Contains (map column_of word) column). columns_word word (IsWord-tail unit word w) column d)
      (Contains-cases (column_of unit) (map column_of word) column c)

  -- and lead where the units lead
  run_columns : (row : ℕ) (word : List ℕ) → row < t.size → IsWord word
      → run t.machine.next row word ≡ row_after m row (map column_of word)
  run_columns row [] l w = run-nil t.machine.next row
  run_columns row (unit ∷ word) l w =
      run-cons t.machine.next row unit word
      ∙ run_columns (t.machine.next row unit) word (nexts row unit l (IsWord-head unit word w))
      (IsWord-tail unit word w)
      ∙ ap (λ r. row_after m r (map column_of word)) (by.nexts row unit l (IsWord-head unit word w))

  -- each word of columns is that of some units
  units_word : (columns : List ℕ) → moves.IsWord m columns
      → (word : List ℕ) × IsWord word × (map column_of word ≡ columns)
  units_word [] w = ([], IsWord-nil, refl)
  units_word (column ∷ columns) w =
      let first = by.used column (w column (0, omega arith, refl)) in
      let rest = units_word columns (λ v c. w v (Contains-there column columns v c)) in (
        first.0 ∷ rest.0,
        IsWord-cons first.0 rest.0 first.1 rest.1,
        ap (λ c. c ∷ map column_of rest.0) first.2 ∙ ap (λ cs. column ∷ cs) rest.2,
      )

  after_below : (row : ℕ) (word : List ℕ) → row < t.size → IsWord word → run t.machine.next row word < t.size
  after_below = run-within t.machine.next (λ row. row < t.size) nexts

  pub alike_by_units : (x y : ℕ) → x < t.size → y < t.size → moves.BehaveAlike m labels x y → BehaveAlike t x y
  alike_by_units x y lx ly alike word w =
      (by.labelled (run t.machine.next x word) (run t.machine.next y word) (after_below x word lx w)
      (after_below y word ly w)).0
      (ap (slice_index labels) (run_columns x word lx w) ∙ alike (map column_of word) (columns_word word w)
      ∙ sym (ap (slice_index labels) (run_columns y word ly w)))

  label_by_columns : (x : ℕ) (columns word : List ℕ) → x < t.size → IsWord word → map column_of word ≡ columns
      → label_after m labels x columns ≡ slice_index labels (run t.machine.next x word)
  label_by_columns x columns word l w e = grind (arith, common_steps, run_columns)

  pub told_by_units : (x y : ℕ) → x < t.size → y < t.size → moves.AreToldApart m labels x y → AreToldApart t x y
  told_by_units x y lx ly told =
      let word = units_word told.word told.is_word in
      record {
        word = word.0;
        is_word = word.1;
        differ = λ e. told.differ (
            label_by_columns x told.word word.0 lx word.1 word.2
            ∙ (by.labelled (run t.machine.next x word.0) (run t.machine.next y word.0) (after_below x word.0 lx word.1)
            (after_below y word.0 ly word.1)).1 e
            ∙ sym (label_by_columns y told.word word.0 ly word.1 word.2)
            );
      }
