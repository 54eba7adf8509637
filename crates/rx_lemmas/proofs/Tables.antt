-- Tables that are the same where they have a meaning: one is as sound as the other, and they answer the same.
-- And what needles say: between them each byte leads an accelerated row to itself.
use Rattle.rx_spec.proofs.Prelude.{◌≡◌, ◌≢◌, ℕ, ◌-◌, ◌<◌, ◌==◌, ◌↔◌, Bool, true, false, not, if◌then◌else◌, Option}
use Rattle.rx_spec.proofs.Prelude.{Some, None, List, [], ◌∷◌, refl, ap, sym, ◌∙◌, subst, arith, common_steps, Contains}
use Rattle.rx_spec.proofs.Prelude.{Ok, range_with_len, IsStrictlyIncreasing, eqb-true, ne_eqb, not-true, eqb-false}
use Rattle.rx_spec.proofs.Prelude.{All-head, All-tail, IsStrictlyIncreasing-filter, AreBytes, Anchored, Query}
use Rattle.rx_spec.proofs.Prelude.{HalfMatch, Label, Machine, IsWord, run, Settings, start_row, start_context, Table}
use Rattle.rx_spec.proofs.Prelude.{IsTable, IsSound, is_match, is_match_label, leaving, AreSame, HalfAnswer, units_of}
use Rattle.rx_spec.proofs.Prelude.{beside, first_offset, next_offset, last_match, at_label, walk, half_search}
use Rattle.rx_spec.proofs.Prelude.{OverlappingMatches, Ending, none_left, at_item_label, overlapping_walk, overlapping}
use Rattle.std.proofs.lemmas.Bool.{not_from_false}
use Rattle.rx_spec.specs.Tables.{SameSettings}
use Rattle.rx_spec.specs.declared.Direction.{Direction}
use Rattle.rx_lemmas.proofs.Filters.{filter_tested, filter_keeps, filter_alike, range_has, every_in_range}
use Rattle.rx_lemmas.proofs.Filters.{range_rises}
use Rattle.rx_lemmas.proofs.Words.{run-nil, run-cons, IsWord-head, IsWord-tail}
use Rattle.rx_lemmas.proofs.Firsts.{by_test, Contains-here, Contains-there}
use Rattle.rx_lemmas.proofs.ReadUnits.{beside_is_byte, units_word}

-- ---- being the same is an equivalence

pub SameSettings-refl : (s : Settings) → SameSettings s s
SameSettings-refl s = grind (arith, common_steps)

pub SameSettings-sym : {s r : Settings} → SameSettings s r → SameSettings r s
SameSettings-sym same = grind (arith, common_steps)

pub SameSettings-trans : {s r v : Settings} → SameSettings s r → SameSettings r v → SameSettings s v
SameSettings-trans a b = grind (arith, common_steps)

pub AreSame-refl : (t : Table) → AreSame t t
AreSame-refl t = grind (arith, common_steps)

-- a row of the one is a row of the other
row_moved : {t u : Table} → AreSame t u → (row : ℕ) → row < u.size → row < t.size
row_moved same row h = let e = same.size in omega arith

pub AreSame-sym : {t u : Table} → AreSame t u → AreSame u t
AreSame-sym same = grind (arith, common_steps)

pub AreSame-trans : {t u v : Table} → AreSame t u → AreSame u v → AreSame t v
AreSame-trans {t} {u} {v} a b = grind (arith, common_steps)

-- ---- tables and soundness

module _ {t u : Table} (same : AreSame t u) where
  pub table_same : IsTable t → IsTable u
  table_same is = record {
    two = (let e = same.size in let two = is.two in omega arith);
    entries = λ mode start.
        omega (arith, same.entries mode start);
    universal_unanchored = λ row e. grind (arith, common_steps);
    universal_anchored = λ row e. grind (arith, common_steps);
    nexts = λ row unit h k. grind (arith, common_steps, row_moved);
    past_last = λ n k start e h.
        sym (same.entries (Anchored.Pattern k) start)
        ∙ is.past_last n k start (same.settings.pattern_starts ∙ e) h;
    dead_only = λ row h. let below = row_moved same row h in sym (same.deads row below) ∙ is.dead_only row below;
    dead_label = sym (same.labels 0 (first is)) ∙ is.dead_label;
    dead_stays = λ unit h. sym (same.nexts 0 unit (first is) h) ∙ is.dead_stays unit h;
    quit_label = sym (same.labels 1 (second is)) ∙ is.quit_label;
    quit_ends = λ unit h. sym (same.nexts 1 unit (second is) h) ∙ is.quit_ends unit h;
    quit_only = λ row h e. grind (arith, common_steps, row_moved);
    lists = λ row h e. let below = row_moved same row h in is.lists row below (same.labels row below ∙ e);
  }
    where
      first : IsTable t → 0 < t.size
      first is = let two = is.two in omega arith

      second : IsTable t → 1 < t.size
      second is = let two = is.two in omega arith

  leaving_same : (row : ℕ) → row < t.size → leaving t row ≡ leaving u row
  leaving_same row h =
      filter_alike (λ byte. not (t.machine.next row byte == row)) (λ byte. not (u.machine.next row byte == row))
      (range_with_len 0 256)
      (every_in_range (λ byte. not (t.machine.next row byte == row) ≡ not (u.machine.next row byte == row)) 0 256
      (λ byte low high. ap (λ n. not (n == row)) (same.nexts row byte h (omega arith))))

  pub sound_same : IsSound t → IsSound u
  sound_same sound = record {
    is_table = table_same sound.is_table;
    eoi_goes_on = λ row h e. grind (arith, common_steps, row_moved);
    starts_plain = λ mode start.
        ap u.machine.label (sym (same.entries mode start))
        ∙ sym (same.labels (t.machine.entry mode start) (sound.is_table.entries mode start))
        ∙ sound.starts_plain mode start;
    patterns = λ row ks k h e c.
        let below = row_moved same row h in
        omega (arith, sound.patterns row ks k below (same.labels row below ∙ e) c);
    needles = λ row h e.
        let below = row_moved same row h in
        sym (same.needles row below) ∙ sound.needles row below (same.accelerated row below ∙ e)
        ∙ leaving_same row below;
    some_needle = λ row h e. grind (arith, common_steps, row_moved);
    few_needles = λ row h e. grind (arith, common_steps, row_moved);
    no_needle = λ row h e. grind (arith, common_steps, row_moved);
    special = λ row h. grind (arith, common_steps, row_moved, is_match_label, is_match);
  }

-- ---- they answer the same

-- where a walk stands: at a row, at an offset, with the last match
record Place : Type 0 where
  row : ℕ
  offset : ℕ
  last : Option HalfMatch

abbrev walk_from : Machine ℕ → Direction → Bool → Place → List ℕ → HalfAnswer
walk_from m direction earliest p units = walk m direction earliest p.row p.offset p.last units

-- what a unit leads to, by its label and whether it is dead
abbrev stepped : Direction → Bool → ℕ → Place → Label → Bool → HalfAnswer → HalfAnswer
stepped direction earliest unit p label dead later =
    let met = last_match label p.offset p.last in
    at_label label direction earliest unit p.offset (Ok met) (if dead then Ok met else later)

abbrev next_place : Direction → Place → Label → ℕ → Place
next_place direction p label row =
    record { row = row; offset = next_offset direction p.offset; last = last_match label p.offset p.last }

module _ {t u : Table} (is : IsTable t) (same : AreSame t u) where
  walk_same : (direction : Direction) (earliest : Bool) (p : Place) (units : List ℕ) → p.row < t.size → IsWord units
      → walk_from t.machine direction earliest p units ≡ walk_from u.machine direction earliest p units
  unfolding walk
  walk_same direction earliest p [] h w = refl
  walk_same direction earliest p (unit ∷ units) h w =
      let unit_fits = IsWord-head unit units w in
      let next = t.machine.next p.row unit in
      let below = is.nexts p.row unit h unit_fits in
      let go = stepped direction earliest unit p in
      let on = λ (m : Machine ℕ) (label : Label) (r : ℕ).
      walk_from m direction earliest (next_place direction p label r) units in
      ap (λ label. go label (t.machine.is_dead next) (on t.machine label next)) (same.labels next below)
      ∙ ap (λ dead. go (u.machine.label next) dead (on t.machine (u.machine.label next) next)) (same.deads next below)
      ∙ ap (go (u.machine.label next) (u.machine.is_dead next))
      (walk_same direction earliest (next_place direction p (u.machine.label next) next) units below
      (IsWord-tail unit units w))
      ∙ ap (λ r. go (u.machine.label r) (u.machine.is_dead r) (on u.machine (u.machine.label r) r))
      (same.nexts p.row unit h unit_fits)

  told_same : (direction : Direction) (row offset : ℕ) (units : List ℕ) → row < t.size → IsWord units
      → overlapping_walk t.machine direction row offset units ≡ overlapping_walk u.machine direction row offset units
  unfolding overlapping_walk
  told_same direction row offset [] h w = refl
  told_same direction row offset (unit ∷ units) h w =
      let unit_fits = IsWord-head unit units w in
      let next = t.machine.next row unit in
      let below = is.nexts row unit h unit_fits in
      let later = next_offset direction offset in
      let go = λ (label : Label) (dead : Bool) (others : OverlappingMatches).
      at_item_label label direction unit offset (if dead then none_left Ending.Ended else others) in
      ap (λ label. go label (t.machine.is_dead next) (overlapping_walk t.machine direction next later units))
      (same.labels next below)
      ∙ ap (λ dead. go (u.machine.label next) dead (overlapping_walk t.machine direction next later units))
      (same.deads next below)
      ∙ ap (go (u.machine.label next) (u.machine.is_dead next))
      (told_same direction next later units below (IsWord-tail unit units w))
      ∙ ap (λ r. go (u.machine.label r) (u.machine.is_dead r) (overlapping_walk u.machine direction r later units))
      (same.nexts row unit h unit_fits)

  pub half_same : (direction : Direction) (q : Query) → AreBytes q.haystack
      → half_search t.machine t.settings direction q ≡ half_search u.machine u.settings direction q
  half_same direction q bytes =
      let o = beside direction q in
      let below = λ (byte : ℕ) (e : beside direction q ≡ Some byte). beside_is_byte direction q byte bytes e in
      let row = start_row t.machine t.settings o q.mode in
      let place : Place = record { row = row; offset = first_offset direction q; last = None } in
      let walked =
      walk_same direction q.earliest place (units_of direction q)
      (is.entries q.mode (start_context t.settings o)) (units_word direction q bytes) in
      grind (arith, common_steps)

  pub overlapping_same : (direction : Direction) (q : Query) → AreBytes q.haystack
      → overlapping t.machine t.settings direction q ≡ overlapping u.machine u.settings direction q
  overlapping_same direction q bytes =
      let o = beside direction q in
      let below = λ (byte : ℕ) (e : beside direction q ≡ Some byte). beside_is_byte direction q byte bytes e in
      let row = start_row t.machine t.settings o q.mode in
      let walked =
      told_same direction row (first_offset direction q) (units_of direction q)
      (is.entries q.mode (start_context t.settings o)) (units_word direction q bytes) in
      grind (arith, common_steps)

-- ---- needles

-- a byte leaves a row exactly where it leads elsewhere
pub leaving_exactly : (t : Table) (row byte : ℕ) → byte < 256
    → Contains (leaving t row) byte ↔ (t.machine.next row byte ≢ row)
leaving_exactly t row byte below = (leaves, kept)
  where
    elsewhere : ℕ → Bool
    elsewhere b = not (t.machine.next row b == row)

    leaves : Contains (leaving t row) byte → t.machine.next row byte ≢ row
    leaves c =
        let passed = filter_tested elsewhere (range_with_len 0 256) byte c in
        eqb-false (t.machine.next row byte) row (not-true (t.machine.next row byte == row) passed)

    kept : t.machine.next row byte ≢ row → Contains (leaving t row) byte
    kept ne =
        filter_keeps elsewhere (range_with_len 0 256) byte (range_has 0 256 byte (omega arith) below)
        (not_from_false (t.machine.next row byte == row) (ne_eqb (t.machine.next row byte) row ne))

-- from an accelerated row, bytes that are no needles lead back to it
pub between_needles : {t : Table} → IsSound t → (row : ℕ) → row < t.size → t.is_accelerated row ≡ true
    → (bytes : List ℕ) → AreBytes bytes → ((b : ℕ) → Contains bytes b → Contains (t.needles row) b → ⊥)
    → run t.machine.next row bytes ≡ row
between_needles {t} sound row h accelerated [] bytes none = run-nil t.machine.next row
between_needles {t} sound row h accelerated (b ∷ bs) bytes none =
    run-cons t.machine.next row b bs
    ∙ ap (λ r. run t.machine.next r bs) stays
    ∙ between_needles sound row h accelerated bs (All-tail (λ x. x < 256) b bs bytes)
    (λ c d. none c (Contains-there b bs c d))
  where
    stays : t.machine.next row b ≡ row
    stays =
        by_test (t.machine.next row b == row)
        (λ e. eqb-true (t.machine.next row b) row e)
        (λ e. absurd (none b (Contains-here b bs)
        (subst (λ needles. Contains needles b) (sym (sound.needles row h accelerated))
        ((leaving_exactly t row b (All-head (λ x. x < 256) b bs bytes)).1 (eqb-false (t.machine.next row b) row e)))))

pub leaving_rises : (t : Table) (row : ℕ) → IsStrictlyIncreasing (leaving t row)
leaving_rises t row =
    IsStrictlyIncreasing-filter (λ byte. not (t.machine.next row byte == row)) (range_with_len 0 256)
    (range_rises 0 256)

-- a match row isn't dead
pub match_alive : {t : Table} → IsTable t → (row : ℕ) {ks : List ℕ} → row < t.size
    → t.machine.label row ≡ Label.Matches ks → t.machine.is_dead row ≡ false
match_alive {t} is row {ks} below label = grind (arith, common_steps)
