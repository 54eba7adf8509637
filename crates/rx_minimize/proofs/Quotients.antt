-- What a table says in which the first row of each block is left.
use Rattle.rx_spec.proofs.Prelude.{common_steps, ◌≡◌, ◌≢◌, ℕ, ◌<◌, ◌≤◌, List, [], ◌∷◌, length, sym, ap, ◌∙◌, arith}
use Rattle.rx_spec.proofs.Prelude.{⊎_elim, cases_eq, cases_lt, slice_index, Label, AreToldApart, Table, IsTable}
use Rattle.rx_minimize.proofs.Prelude.{AreBlocks, AreNames, AreRenumbered, BehaveAlike, IsQuotient, apart}
use Rattle.rx_lemmas.proofs.Words.{run-nil, run-cons, IsWord-nil, IsWord-cons}

-- rows that behave alike have one label, and lead to rows that behave alike
alike_label : (t : Table) (x y : ℕ) → BehaveAlike t x y → t.machine.label x ≡ t.machine.label y
alike_label t x y h =
    ap t.machine.label (sym (run-nil t.machine.next x)) ∙ h [] IsWord-nil
    ∙ ap t.machine.label (run-nil t.machine.next y)

alike_next : (t : Table) (x y unit : ℕ) → unit < 257 → BehaveAlike t x y
    → BehaveAlike t (t.machine.next x unit) (t.machine.next y unit)
alike_next t x y unit l h word w =
    ap t.machine.label (sym (run-cons t.machine.next x unit word))
    ∙ h (unit ∷ word) (IsWord-cons unit word l w)
    ∙ ap t.machine.label (run-cons t.machine.next y unit word)

-- a table, its blocks, and their numbers in the order of their first rows
pub record AreNumbered (t : Table) (blocks numbers firsts : List ℕ) : Type 0 where
  pub is : IsTable t
  pub are : AreBlocks t blocks
  pub renumbered : AreRenumbered blocks numbers firsts

module _ {t : Table} {blocks numbers firsts : List ℕ} (by : AreNumbered t blocks numbers firsts) where
  is : IsTable t
  is = by.is

  rows : length blocks ≡ t.size
  rows = by.are.count

  abbrev pub number : ℕ → ℕ
  number = slice_index numbers

  abbrev pub first : ℕ → ℕ
  first = slice_index firsts

  row_below : {x : ℕ} → x < t.size → x < length blocks
  row_below l = omega (arith, rows)

  pub number_below : (x : ℕ) → x < t.size → number x < length firsts
  number_below x l = by.renumbered.below x (row_below l)

  pub first_below : (k : ℕ) → k < length firsts → first k < t.size
  first_below k l = omega (arith, rows, by.renumbered.are_firsts.below k l)

  pub alike : (x y : ℕ) → x < t.size → y < t.size → number x ≡ number y → BehaveAlike t x y
  alike x y lx ly e = by.are.alike x y lx ly ((by.renumbered.same x y (row_below lx) (row_below ly)).0 e)

  pub told : (x y : ℕ) → x < t.size → y < t.size → number x ≢ number y → AreToldApart t x y
  told x y lx ly ne = by.are.told x y lx ly (λ e. ne ((by.renumbered.same x y (row_below lx) (row_below ly)).1 e))

  pub one_number : (x y : ℕ) → x < t.size → y < t.size → BehaveAlike t x y → number x ≡ number y
  one_number x y lx ly h =
      ⊎_elim (λ (e : number x ≡ number y). e)
      (λ (ne : number x ≡ number y → ⊥). let w = told x y lx ly ne in absurd (w.differ (h w.word w.is_word)))
      (cases_eq (number x) (number y))

  zero_row : 0 < t.size
  zero_row = let two = is.two in omega arith

  one_row : 1 < t.size
  one_row = let two = is.two in omega arith

  -- dead and quit keep their numbers
  pub number_zero : number 0 ≡ 0
  number_zero =
      let k = number_below 0 zero_row in
      let le = by.renumbered.first_least 0 (row_below zero_row) in
      ⊎_elim
      (λ (h : 0 < number 0). absurd (omega (arith, le, by.renumbered.are_firsts.rising 0 (number 0) h k)))
      (λ (h : number 0 ≤ 0). (let e : number 0 ≡ 0 = omega arith in e))
      (cases_lt 0 (number 0))

  quit_apart : number 1 ≢ number 0
  quit_apart e =
      let wrong : Label.Quits ≡ Label.Plain =
      sym is.quit_label ∙ alike_label t 1 0 (alike 1 0 one_row zero_row e) ∙ is.dead_label in
      cc

  pub number_one : number 1 ≡ 1
  number_one = grind (arith, common_steps, number_below, one_row, row_below, quit_apart, number_zero, cases_lt)

  pub number_high : (row : ℕ) → 1 < number row → 1 < row
  number_high row h = grind (arith, common_steps, cases_eq, cases_lt, number_zero, number_one)

  pub two_firsts : 2 ≤ length firsts
  two_firsts = omega (arith, number_one, number_below 1 one_row)

  pub first_number : (k : ℕ) → k < length firsts → number (first k) ≡ k
  first_number k l = by.renumbered.first_number k l

  pub first_zero : first 0 ≡ 0
  first_zero = omega (arith, number_zero, ap first (sym number_zero), by.renumbered.first_least 0 (row_below zero_row))

  pub first_one : first 1 ≡ 1
  first_one =
      omega (
        arith,
        ap first (sym number_one),
        by.renumbered.first_least 1 (row_below one_row),
        by.renumbered.are_firsts.rising 0 1 (omega arith) (omega (arith, two_firsts)),
      )

  -- a row behaves like the first one of its block
  pub first_alike : (row : ℕ) → row < t.size → BehaveAlike t (first (number row)) row
  first_alike row l = grind (arith, common_steps, alike, first_below, number_below, first_number)

  pub label_first : (row : ℕ) → row < t.size → t.machine.label (first (number row)) ≡ t.machine.label row
  label_first row l = alike_label t (first (number row)) row (first_alike row l)

  module _ {q : Table} (quotient : IsQuotient t numbers firsts q) where
    in_q : {k : ℕ} → k < length firsts → k < q.size
    in_q l = omega (arith, quotient.size)

    in_firsts : {k : ℕ} → k < q.size → k < length firsts
    in_firsts l = omega (arith, quotient.size)

    next_number : (row unit : ℕ) → row < t.size → unit < 257
        → q.machine.next (number row) unit ≡ number (t.machine.next row unit)
    next_number row unit l lu =
        let there = number_below row l in
        let fits = first_below (number row) there in
        quotient.nexts (number row) unit (in_q there) lu
        ∙ one_number (t.machine.next (first (number row)) unit) (t.machine.next row unit)
        (is.nexts (first (number row)) unit fits lu) (is.nexts row unit l lu)
        (alike_next t (first (number row)) row unit lu (first_alike row l))

    pub names : AreNames t q
    names = record {
      name = number;
      row_at = first;
      entries_within = is.entries;
      nexts_within = is.nexts;
      names_below = λ row l. in_q (number_below row l);
      rows_below = λ k l. first_below k (in_firsts l);
      named = λ k l. first_number k (in_firsts l);
      dead = number_zero;
      quit = number_one;
      entries = quotient.entries;
      nexts = next_number;
      labels = λ row l. quotient.labels (number row) (in_q (number_below row l)) ∙ label_first row l;
    }

    pub quotient_apart : (y z : ℕ) → y < q.size → z < q.size → y ≢ z → AreToldApart q y z
    unfolding names
    quotient_apart = apart names told
