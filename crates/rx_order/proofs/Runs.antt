-- A table whose rows are rows of another table under other names: what it says of words, and that it is sound.
use Rattle.rx_spec.proofs.Prelude.{common_steps, cases_eq, cases_lt, ◌≡◌, ◌≢◌, ℕ, ◌<◌, ◌≤◌, ◌==◌, true, false, List, []}
use Rattle.rx_spec.proofs.Prelude.{◌∷◌, length, slice_index, Some, sym, ap, ◌∙◌, subst, arith, position_or_len}
use Rattle.rx_spec.proofs.Prelude.{Contains, ◌||◌, false≢true, AreToldApart, IsReachedRow, SameLabels, IsWord, Label}
use Rattle.rx_spec.proofs.Prelude.{Settings, run, Anchored, IsSound, IsTable, Table, is_match, leaving}
use Rattle.rx_order.proofs.Prelude.{IsPermuted, Start}
use Rattle.rx_lemmas.proofs.Words.{run-nil, run-cons, run-within, IsWord-head, IsWord-tail}
use Rattle.rx_order.proofs.ExchangedRows.{place_of-row, row_at_place, row_below}

-- Each row of the first table has a name, which is a row of the second one: this leads to the names of the rows to
-- which the first one leads, and tells the same. Dead and quit keep their numbers.
pub record AreNames (t u : Table) : Type 0 where
  pub name : ℕ → ℕ
  pub row_at : ℕ → ℕ
  pub entries_within : (mode : Anchored) (start : Start) → t.machine.entry mode start < t.size
  pub nexts_within : (row unit : ℕ) → row < t.size → unit < 257 → t.machine.next row unit < t.size
  pub names_below : (row : ℕ) → row < t.size → name row < u.size
  pub rows_below : (place : ℕ) → place < u.size → row_at place < t.size
  pub named : (place : ℕ) → place < u.size → name (row_at place) ≡ place
  pub dead : name 0 ≡ 0
  pub quit : name 1 ≡ 1
  pub entries : (mode : Anchored) (start : Start) → u.machine.entry mode start ≡ name (t.machine.entry mode start)
  pub nexts : (row unit : ℕ) → row < t.size → unit < 257
      → u.machine.next (name row) unit ≡ name (t.machine.next row unit)
  pub labels : (row : ℕ) → row < t.size → u.machine.label (name row) ≡ t.machine.label row

-- what the second table says beside its rows
pub record HasRest (t u : Table) : Type 0 where
  pub universal_unanchored : (row : ℕ) → u.universal_unanchored ≡ Some row → row < u.size
  pub universal_anchored : (row : ℕ) → u.universal_anchored ≡ Some row → row < u.size
  pub dead_only : (row : ℕ) → row < u.size → u.machine.is_dead row ≡ (row == 0)
  pub settings : u.settings ≡ t.settings
  pub pattern_len : u.pattern_len ≡ t.pattern_len

-- what is sound of a table's rows
pub record AreSoundRows (t : Table) : Type 0 where
  pub is_table : IsTable t
  pub eoi_goes_on : (row : ℕ) → row < t.size → t.machine.next row 256 ≢ 1
  pub starts_plain : (mode : Anchored) (start : Start) → t.machine.label (t.machine.entry mode start) ≡ Label.Plain
  pub patterns : (row : ℕ) (ks : List ℕ) (k : ℕ) → row < t.size → t.machine.label row ≡ Label.Matches ks
      → Contains ks k → k < t.pattern_len

-- what a table's needles are
pub record HasNeedles (t : Table) : Type 0 where
  pub needles : (row : ℕ) → row < t.size → t.is_accelerated row ≡ true → t.needles row ≡ leaving t row
  pub some_needle : (row : ℕ) → row < t.size → t.is_accelerated row ≡ true → 1 ≤ length (t.needles row)
  pub few_needles : (row : ℕ) → row < t.size → t.is_accelerated row ≡ true → length (t.needles row) ≤ 3

-- no row has needles where none is accelerated
pub no_needles : (t : Table) → ((row : ℕ) → row < t.size → t.is_accelerated row ≡ false) → HasNeedles t
no_needles t none = record {
  needles = λ row h e. absurd (false≢true (sym (none row h) ∙ e));
  some_needle = λ row h e. absurd (false≢true (sym (none row h) ∙ e));
  few_needles = λ row h e. absurd (false≢true (sym (none row h) ∙ e));
}

module _ {t u : Table} (n : AreNames t u) where
  -- ---- places

  pub next_at : (place unit : ℕ) → place < u.size → unit < 257
      → u.machine.next place unit ≡ n.name (t.machine.next (n.row_at place) unit)
  next_at place unit h l =
      ap (λ p. u.machine.next p unit) (sym (n.named place h)) ∙ n.nexts (n.row_at place) unit (n.rows_below place h) l

  pub label_at : (place : ℕ) → place < u.size → u.machine.label place ≡ t.machine.label (n.row_at place)
  label_at place h = ap u.machine.label (sym (n.named place h)) ∙ n.labels (n.row_at place) (n.rows_below place h)

  -- behind quit lie rows from behind quit
  pub high_row : (place : ℕ) → 1 < place → place < u.size → 1 < n.row_at place
  high_row place high h = by_row (n.row_at place) (n.named place h)
    where
      by_row : (row : ℕ) → n.name row ≡ place → 1 < row
      by_row row e = grind (arith, common_steps, cases_eq, cases_lt, n.dead, n.quit)

  -- ---- words

  pub run_name : (row : ℕ) (word : List ℕ) → row < t.size → IsWord word
      → run u.machine.next (n.name row) word ≡ n.name (run t.machine.next row word)
  run_name row [] h w = run-nil u.machine.next (n.name row) ∙ ap n.name (sym (run-nil t.machine.next row))
  run_name row (unit ∷ word) h w =
      let low = IsWord-head unit word w in
      run-cons u.machine.next (n.name row) unit word
      ∙ ap (λ r. run u.machine.next r word) (n.nexts row unit h low)
      ∙ run_name (t.machine.next row unit) word (n.nexts_within row unit h low) (IsWord-tail unit word w)
      ∙ ap n.name (sym (run-cons t.machine.next row unit word))

  run_label : (row : ℕ) (word : List ℕ) → row < t.size → IsWord word
      → u.machine.label (run u.machine.next (n.name row) word) ≡ t.machine.label (run t.machine.next row word)
  run_label row word h w =
      ap u.machine.label (run_name row word h w)
      ∙ n.labels (run t.machine.next row word)
      (run-within t.machine.next (λ row. row < t.size) n.nexts_within row word h w)

  pub same : (Starts : Anchored → Type 0) → SameLabels Starts u.machine t.machine
  same Starts mode begins start word w =
      ap (λ r. u.machine.label (run u.machine.next r word)) (n.entries mode start)
      ∙ run_label (t.machine.entry mode start) word (n.entries_within mode start) w

  pub reached : (Starts : Anchored → Type 0) → ((row : ℕ) → 1 < row → row < t.size → IsReachedRow Starts t row)
      → (place : ℕ) → 1 < place → place < u.size → IsReachedRow Starts u place
  reached Starts reach place high h =
      let r = reach (n.row_at place) (high_row place high h) (n.rows_below place h) in
      record {
        mode = r.mode;
        begins = r.begins;
        start = r.start;
        word = r.word;
        is_word = r.is_word;
        leads =
            ap (λ s. run u.machine.next s r.word) (n.entries r.mode r.start)
            ∙ run_name (t.machine.entry r.mode r.start) r.word (n.entries_within r.mode r.start) r.is_word
            ∙ ap n.name r.leads ∙ n.named place h;
      }

  pub apart : ((x y : ℕ) → x < t.size → y < t.size → n.name x ≢ n.name y → AreToldApart t x y)
      → (x y : ℕ) → x < u.size → y < u.size → x ≢ y → AreToldApart u x y
  apart told x y hx hy ne =
      let w = told (n.row_at x) (n.row_at y) (n.rows_below x hx) (n.rows_below y hy)
      (λ e. ne (sym (n.named x hx) ∙ e ∙ n.named y hy)) in
      let back = λ (z : ℕ) (h : z < u.size).
      ap (λ r. u.machine.label (run u.machine.next r w.word)) (sym (n.named z h))
      ∙ run_label (n.row_at z) w.word (n.rows_below z h) w.is_word in
      record { word = w.word; is_word = w.is_word; differ = λ e. w.differ (sym (back x hx) ∙ e ∙ back y hy) }

  -- ---- a sound table

  module _ (is : IsTable t) where
    zero_row : 0 < t.size
    zero_row = let two = is.two in omega arith

    one_row : 1 < t.size
    one_row = let two = is.two in omega arith

    -- quit alone has the name of quit
    named_quit : (row : ℕ) → row < t.size → n.name row ≡ 1 → row ≡ 1
    named_quit row h e =
        is.quit_only row h
        (sym (n.labels row h) ∙ ap u.machine.label (e ∙ sym n.quit) ∙ n.labels 1 one_row ∙ is.quit_label)

    pub is_table : HasRest t u → IsTable u
    is_table rest = record {
      two = omega (arith, n.names_below 1 one_row, n.quit);
      entries = λ mode start.
          subst (λ r. r < u.size) (sym (n.entries mode start)) (n.names_below _ (n.entries_within mode start));
      universal_unanchored = rest.universal_unanchored;
      universal_anchored = rest.universal_anchored;
      nexts = λ row unit h l.
          subst (λ r. r < u.size) (sym (next_at row unit h l))
          (n.names_below _ (n.nexts_within (n.row_at row) unit (n.rows_below row h) l));
      past_last = λ k j start e h.
          n.entries (Anchored.Pattern j) start
          ∙ ap n.name (is.past_last k j start (ap (λ (s : Settings). s.pattern_starts) (sym rest.settings) ∙ e) h)
          ∙ n.dead;
      dead_only = rest.dead_only;
      dead_label = ap u.machine.label (sym n.dead) ∙ n.labels 0 zero_row ∙ is.dead_label;
      dead_stays = λ unit l.
          ap (λ r. u.machine.next r unit) (sym n.dead) ∙ n.nexts 0 unit zero_row l
          ∙ ap n.name (is.dead_stays unit l) ∙ n.dead;
      quit_label = ap u.machine.label (sym n.quit) ∙ n.labels 1 one_row ∙ is.quit_label;
      quit_ends = λ unit l.
          ap (λ r. u.machine.next r unit) (sym n.quit) ∙ n.nexts 1 unit one_row l
          ∙ ap n.name (is.quit_ends unit l) ∙ n.dead;
      quit_only = λ row h e.
          sym (n.named row h)
          ∙ ap n.name (is.quit_only (n.row_at row) (n.rows_below row h) (sym (label_at row h) ∙ e)) ∙ n.quit;
      lists = λ row h e. is.lists (n.row_at row) (n.rows_below row h) (sym (label_at row h) ∙ e);
    }

  pub is_sound : AreSoundRows t → HasRest t u → HasNeedles u
      → ((row : ℕ) → row < u.size → u.is_accelerated row ≡ false → u.needles row ≡ [])
      → ((row : ℕ) → row < u.size
      → u.is_special row ≡ ((row == 0) || (row == 1) || is_match u row || u.is_accelerated row || u.is_start row))
      → IsSound u
  is_sound sound rest has none special = record {
    is_table = is_table sound.is_table rest;
    eoi_goes_on = λ row h e.
        let below = n.rows_below row h in
        sound.eoi_goes_on (n.row_at row) below
        (named_quit sound.is_table (t.machine.next (n.row_at row) 256)
        (n.nexts_within (n.row_at row) 256 below (omega arith)) (sym (next_at row 256 h (omega arith)) ∙ e));
    starts_plain = λ mode start.
        ap u.machine.label (n.entries mode start) ∙ n.labels (t.machine.entry mode start) (n.entries_within mode start)
        ∙ sound.starts_plain mode start;
    patterns = λ row ks k h e c.
        omega (
          arith,
          rest.pattern_len,
          sound.patterns (n.row_at row) ks k (n.rows_below row h) (sym (label_at row h) ∙ e) c,
        );
    needles = has.needles;
    some_needle = has.some_needle;
    few_needles = has.few_needles;
    no_needle = none;
    special = special;
  }

-- ---- rows at other places

-- as many rows, each at the place of its name
pub record HasMoved (t u : Table) : Type 0 where
  pub names : AreNames t u
  pub back : (row : ℕ) → row < t.size → names.row_at (names.name row) ≡ row
  pub size : u.size ≡ t.size

pub permuted_moved : {numbers : List ℕ} {t u : Table}
    → ((mode : Anchored) (start : Start) → t.machine.entry mode start < t.size)
    → ((row unit : ℕ) → row < t.size → unit < 257 → t.machine.next row unit < t.size) → IsPermuted numbers t u
    → ((row : ℕ) → row < t.size → u.machine.label (slice_index numbers row) ≡ t.machine.label row) → HasMoved t u
permuted_moved {numbers} {t} {u} entries nexts p labels = record {
  names = record {
    name = slice_index numbers;
    row_at = λ place. position_or_len (λ other. other == place) numbers;
    entries_within = entries;
    nexts_within = nexts;
    names_below = λ row h. subst (λ n. slice_index numbers row < n) (sym p.size) (row_below p.permutation row h);
    rows_below = λ place h. (row_at_place p.permutation place (omega (arith, p.size))).0;
    named = λ place h. (row_at_place p.permutation place (omega (arith, p.size))).1;
    dead = p.dead;
    quit = p.quit;
    entries = p.entries;
    nexts = p.nexts;
    labels = labels;
  };
  back = place_of-row p.permutation;
  size = p.size;
}
