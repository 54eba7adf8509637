-- Blocks are numbered in the order of their first rows, one row after another.
use Rattle.rx_spec.proofs.Prelude.{common_steps, ◌≡◌, ◌≢◌, ℕ, ◌<◌, ◌≤◌, ◌+◌, ◌⊎◌, inl, inr, ⊎_elim, List, [], ◌∷◌, ◌++◌}
use Rattle.rx_spec.proofs.Prelude.{length, length-append, refl, sym, ap, ◌∙◌, subst, arith, cases_eq, get_or_push}
use Rattle.rx_spec.proofs.Prelude.{get_or_append_left, get_or-set_same, get_or-set_other, slice_index, slice_set}
use Rattle.rx_minimize.proofs.Prelude.{AreRenumbered, length-set}

-- the first row of a named block, by its name
abbrev has_name : (blocks firsts : List ℕ) (name block : ℕ) → Type 0
has_name blocks firsts name block =
    (name ≡ length blocks) ⊎ ((name < length firsts) × (slice_index blocks (slice_index firsts name) ≡ block))

-- The blocks of the first rows have names, in the order of their first rows. Other blocks have none: their name is the
-- count of rows.
pub record AreNamed (blocks : List ℕ) (row : ℕ) (names numbers firsts : List ℕ) : Type 0 where
  pub names_len : length names ≡ length blocks
  pub count : length numbers ≡ row
  pub few : length firsts ≤ row
  pub named : (x : ℕ) → x < row → slice_index names (slice_index blocks x) ≡ slice_index numbers x
  pub below : (x : ℕ) → x < row → slice_index numbers x < length firsts
  pub back : (b : ℕ) → b < length blocks → has_name blocks firsts (slice_index names b) b
  pub first_below : (k : ℕ) → k < length firsts → slice_index firsts k < row
  pub first_number : (k : ℕ) → k < length firsts → slice_index numbers (slice_index firsts k) ≡ k
  pub first_least : (x : ℕ) → x < row → slice_index firsts (slice_index numbers x) ≤ x
  pub rising : (j k : ℕ) → j < k → k < length firsts → slice_index firsts j < slice_index firsts k

module _ {blocks : List ℕ} {row : ℕ} {names numbers firsts : List ℕ} (h : AreNamed blocks row names numbers firsts)
    (within : row < length blocks) (fits : slice_index blocks row < length blocks) where
  abbrev pub block : ℕ
  block = slice_index blocks row

  abbrev pub name : ℕ
  name = slice_index names block

  -- a row of a block that has a name
  module _ (known : name ≢ length blocks) where
    abbrev pub more : List ℕ
    more = numbers ++ name ∷ []

    last : slice_index more row ≡ name
    last = get_or_push numbers name 0 row h.count

    before : (x : ℕ) → x < row → slice_index more x ≡ slice_index numbers x
    before x l = get_or_append_left numbers (name ∷ []) 0 x (omega (arith, h.count))

    name_below : name < length firsts
    name_below = grind (arith, common_steps, h.back)

    pub known_named : AreNamed blocks (row + 1) names more firsts
    known_named = record {
      names_len = h.names_len;
      count = omega (arith, length-append numbers (name ∷ []), h.count);
      few = omega (arith, h.few);
      named = λ x l.
          ⊎_elim
          (λ (e : x ≡ row).
          subst (λ x. slice_index names (slice_index blocks x) ≡ slice_index more x) (sym e) (sym last))
          (λ (ne : x ≡ row → ⊥). h.named x (omega arith) ∙ sym (before x (omega arith)))
          (cases_eq x row);
      below = λ x l.
          ⊎_elim
          (λ (e : x ≡ row). subst (λ x. slice_index more x < length firsts) (sym e) (omega (arith, last, name_below)))
          (λ (ne : x ≡ row → ⊥).
          (let g : slice_index more x < length firsts =
          omega (arith, before x (omega arith), h.below x (omega arith)) in
          g))
          (cases_eq x row);
      back = h.back;
      first_below = λ k l. omega (arith, h.first_below k l);
      first_number = λ k l. before (slice_index firsts k) (h.first_below k l) ∙ h.first_number k l;
      first_least = λ x l.
          ⊎_elim
          (λ (e : x ≡ row).
          subst (λ x. slice_index firsts (slice_index more x) ≤ x) (sym e)
          (omega (arith, ap (slice_index firsts) last, h.first_below name name_below)))
          (λ (ne : x ≡ row → ⊥).
          (let g : slice_index firsts (slice_index more x) ≤ x =
          omega (arith, ap (slice_index firsts) (before x (omega arith)), h.first_least x (omega arith)) in
          g))
          (cases_eq x row);
      rising = h.rising;
    }

  -- the first row of a block
  module _ (unknown : name ≡ length blocks) where
    abbrev pub new : ℕ
    new = length firsts

    abbrev pub new_names : List ℕ
    new_names = slice_set names block new

    abbrev pub new_numbers : List ℕ
    new_numbers = numbers ++ new ∷ []

    abbrev pub new_firsts : List ℕ
    new_firsts = firsts ++ row ∷ []

    own_name : slice_index new_names block ≡ new
    own_name = get_or-set_same names block new 0 (omega (arith, h.names_len, fits))

    other_name : (b : ℕ) → b ≢ block → slice_index new_names b ≡ slice_index names b
    other_name b ne = get_or-set_other names block b new 0 ne

    len : length new_firsts ≡ length firsts + 1
    len = length-append firsts (row ∷ [])

    number_last : slice_index new_numbers row ≡ new
    number_last = get_or_push numbers new 0 row h.count

    number_before : (x : ℕ) → x < row → slice_index new_numbers x ≡ slice_index numbers x
    number_before x l = get_or_append_left numbers (new ∷ []) 0 x (omega (arith, h.count))

    first_last : slice_index new_firsts new ≡ row
    first_last = get_or_push firsts row 0 new refl

    first_before : (k : ℕ) → k < length firsts → slice_index new_firsts k ≡ slice_index firsts k
    first_before k l = get_or_append_left firsts (row ∷ []) 0 k l

    -- no row before is in this block
    elsewhere : (x : ℕ) → x < row → slice_index blocks x ≢ block
    elsewhere x l e = omega (arith, ap (slice_index names) e, h.named x l, h.below x l, h.few, unknown, within)

    pub new_named : AreNamed blocks (row + 1) new_names new_numbers new_firsts
    new_named = record {
      names_len = length-set names block new ∙ h.names_len;
      count = omega (arith, length-append numbers (new ∷ []), h.count);
      few = omega (arith, h.few, len);
      named = λ x l.
          ⊎_elim
          (λ (e : x ≡ row).
          subst (λ x. slice_index new_names (slice_index blocks x) ≡ slice_index new_numbers x) (sym e)
          (own_name ∙ sym number_last))
          (λ (ne : x ≡ row → ⊥).
          let lx : x < row = omega arith in
          other_name (slice_index blocks x) (elsewhere x lx) ∙ h.named x lx ∙ sym (number_before x lx))
          (cases_eq x row);
      below = λ x l.
          ⊎_elim
          (λ (e : x ≡ row).
          subst (λ x. slice_index new_numbers x < length new_firsts) (sym e) (omega (arith, number_last, len)))
          (λ (ne : x ≡ row → ⊥).
          let lx : x < row = omega arith in
          (let g : slice_index new_numbers x < length new_firsts =
          omega (arith, number_before x lx, h.below x lx, len) in
          g))
          (cases_eq x row);
      back = λ b l.
          ⊎_elim
          (λ (e : b ≡ block).
          subst (λ b. has_name blocks new_firsts (slice_index new_names b) b) (sym e)
          (inr (
            omega (arith, own_name, len),
            ap (λ n. slice_index blocks (slice_index new_firsts n)) own_name ∙ ap (slice_index blocks) first_last,
          )))
          (λ (ne : b ≡ block → ⊥).
          ⊎_elim (λ (none : slice_index names b ≡ length blocks). inl (other_name b ne ∙ none))
          (λ (is : (slice_index names b < length firsts)
          × (slice_index blocks (slice_index firsts (slice_index names b)) ≡ b)).
          inr (
            omega (arith, other_name b ne, is.0, len),
            ap (λ n. slice_index blocks (slice_index new_firsts n)) (other_name b ne)
                ∙ ap (slice_index blocks) (first_before (slice_index names b) is.0) ∙ is.1,
          ))
          (h.back b l))
          (cases_eq b block);
      first_below = λ k l.
          ⊎_elim
          (λ (e : k ≡ new). subst (λ k. slice_index new_firsts k < row + 1) (sym e) (omega (arith, first_last)))
          (λ (ne : k ≡ new → ⊥).
          let lk : k < length firsts = omega (arith, l, len) in
          (let g : slice_index new_firsts k < row + 1 = omega (arith, first_before k lk, h.first_below k lk) in g))
          (cases_eq k new);
      first_number = λ k l.
          ⊎_elim
          (λ (e : k ≡ new).
          subst (λ k. slice_index new_numbers (slice_index new_firsts k) ≡ k) (sym e)
          (ap (slice_index new_numbers) first_last ∙ number_last))
          (λ (ne : k ≡ new → ⊥).
          let lk : k < length firsts = omega (arith, l, len) in
          ap (slice_index new_numbers) (first_before k lk)
          ∙ number_before (slice_index firsts k) (h.first_below k lk) ∙ h.first_number k lk)
          (cases_eq k new);
      first_least = λ x l.
          ⊎_elim
          (λ (e : x ≡ row).
          subst (λ x. slice_index new_firsts (slice_index new_numbers x) ≤ x) (sym e)
          (omega (arith, ap (slice_index new_firsts) number_last, first_last)))
          (λ (ne : x ≡ row → ⊥).
          let lx : x < row = omega arith in
          (let g : slice_index new_firsts (slice_index new_numbers x) ≤ x =
          omega (
            arith,
            ap (slice_index new_firsts) (number_before x lx),
            first_before (slice_index numbers x) (h.below x lx),
            h.first_least x lx,
          ) in
          g))
          (cases_eq x row);
      rising = λ j k jk l.
          ⊎_elim
          (λ (e : k ≡ new).
          let lj : j < length firsts = omega (arith, jk, e) in
          subst (λ k. slice_index new_firsts j < slice_index new_firsts k) (sym e)
          (omega (arith, first_last, first_before j lj, h.first_below j lj)))
          (λ (ne : k ≡ new → ⊥).
          let lk : k < length firsts = omega (arith, l, len) in
          let lj : j < length firsts = omega (arith, jk, lk) in
          (let g : slice_index new_firsts j < slice_index new_firsts k =
          omega (arith, first_before k lk, first_before j lj, h.rising j k jk lk) in
          g))
          (cases_eq k new);
    }

-- all rows
pub all_named : {blocks : List ℕ} {row : ℕ} {names numbers firsts : List ℕ} → row ≡ length blocks
    → ((x : ℕ) → x < length blocks → slice_index blocks x < length blocks)
    → AreNamed blocks row names numbers firsts → AreRenumbered blocks numbers firsts
all_named {blocks} {row} {names} {numbers} {firsts} all fits h = grind (arith, common_steps)
