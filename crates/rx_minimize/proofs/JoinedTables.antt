-- A table of which the first row of each block is left: where its rows lead, and what they tell.
use Rattle.rx_spec.proofs.Prelude.{common_steps, ◌≡◌, ℕ, ◌-◌, ◌*◌, ◌/◌, ◌<◌, ◌≤◌, ⊎_elim, List, [], length, map, refl}
use Rattle.rx_spec.proofs.Prelude.{ap, sym, ◌∙◌, subst, arith, slice_index, concat, mul-div_cancel, cases_lt, le-ltb}
use Rattle.rx_spec.proofs.Prelude.{get_or-map, length-map, pow_pos, max_id, Anchored, Table}
use Rattle.rx_minimize.proofs.Prelude.{AreJoined, AreKindEnds, AreStarts, HasPatterns, IsQuotient, Layout, is_marked}
use Rattle.rx_minimize.proofs.Prelude.{label_of_lists, lists_in, machine_of, match_lists, mode_place, row_count}
use Rattle.rx_minimize.proofs.Prelude.{slices_from, special_ids, stride, table_of, with_patterns}
use Rattle.rx_spec.specs.declared.Start.{Start}
use Rattle.rx_order.proofs.KindRanges.{HasSpecials, ends_quit}
use Rattle.rx_order.proofs.MatchRows as MatchRows
use Rattle.rx_minimize.proofs.JoinedRows.{IsJoinedBy}
use Rattle.rx_minimize.proofs.KeptKinds.{IsKept, kind_at, kind_ends, match_kind}
use Rattle.rx_minimize.proofs.KeptKinds as KeptKinds
use Rattle.rx_minimize.proofs.Quotients.{AreNumbered, first_below, first_number, first_one, number_one, number_zero}

-- what is known of a table, and what the calls leave of it
pub record IsMinimizing (old : Layout) (blocks numbers firsts ids ends : List ℕ) (lists : List (List ℕ)) (new : Layout)
    : Type 0 where
  pub kept : IsKept old blocks numbers firsts ends
  pub are_starts : AreStarts old
  pub ids_are : ids ≡ map (λ number. number * stride old) numbers
  pub patterns : lists ≡ lists_in old firsts ends
  pub few : length (concat lists) ≤ max_id
  pub joined : IsJoinedBy (with_patterns old lists) firsts ids new

module _ {old : Layout} {blocks numbers firsts ids ends : List ℕ} {lists : List (List ℕ)} {new : Layout}
    (s : IsMinimizing old blocks numbers firsts ids ends lists new) where
  abbrev pub before : Table
  before = table_of old

  -- the table that is left
  abbrev pub left : Layout
  left = record old {
    words = new.words;
    starts = new.starts;
    slices = slices_from 0 lists;
    pattern_ids = concat lists;
    special = special_ids (stride old) ends (is_marked old);
  }

  abbrev pub after : Table
  after = table_of left

  abbrev pub first : ℕ → ℕ
  first = slice_index firsts

  abbrev pub number : ℕ → ℕ
  number = slice_index numbers

  pub numbered : AreNumbered before blocks numbers firsts
  numbered = KeptKinds.numbered s.kept

  pub some : 0 < stride old
  some = pow_pos old.stride2

  pub size : row_count left ≡ length firsts
  size = ap (λ n. n / stride old) s.joined.count ∙ mul-div_cancel (length firsts) some

  numbers_len : length numbers ≡ row_count old
  numbers_len = s.kept.renumbered.count ∙ s.kept.are_blocks.count

  -- ---- where rows lead

  pub id_is : (row : ℕ) → row < row_count old → slice_index ids row ≡ number row * stride old
  id_is row h = grind (arith, common_steps, get_or-map, numbers_len)

  leads : (row : ℕ) → row < row_count old → slice_index ids row / stride old ≡ number row
  leads row h = ap (λ id. id / stride old) (id_is row h) ∙ mul-div_cancel (number row) some

  next_is : (row unit : ℕ) → row < length firsts → unit < 257
      → after.machine.next row unit ≡ number (before.machine.next (first row) unit)
  next_is row unit h u =
      ap (λ (k : Layout). (machine_of k).next row unit) (sym s.joined.rest) ∙ s.joined.nexts row unit h u
      ∙ leads (before.machine.next (first row) unit)
      (s.kept.in_order.sound.is_table.nexts (first row) unit (first_below numbered row h) u)

  pub starts_len : length new.starts ≡ length old.starts
  starts_len = ap length s.joined.starts ∙ length-map old.starts (λ id. slice_index ids (id / stride old))

  zero_row : 0 / stride old ≡ 0
  zero_row = grind (arith, common_steps, mul-div_cancel, some)

  entry_is : (mode : Anchored) (start : Start)
      → after.machine.entry mode start ≡ number (before.machine.entry mode start)
  entry_is mode start =
      ⊎_elim
      (λ (has : mode_place mode < length old.starts).
      ap (λ (k : Layout). (machine_of k).entry mode start) (sym s.joined.rest) ∙ s.joined.entries mode start has
      ∙ leads (before.machine.entry mode start) (s.kept.in_order.sound.is_table.entries mode start))
      (λ (none : length old.starts ≤ mode_place mode).
      let none_now : length new.starts ≤ mode_place mode = omega (arith, starts_len) in
      rw (le-ltb _ _ none, le-ltb _ _ none_now, zero_row) (sym (number_zero numbered)))
      (cases_lt (mode_place mode) (length old.starts))

  -- ---- kinds

  pub specials : HasSpecials left (is_marked old) (kind_at s.kept) ends
  specials = record {
    are = subst (λ n. AreKindEnds n (kind_at s.kept) ends) (sym size) (kind_ends s.kept);
    special = refl;
  }

  -- ---- patterns

  has_patterns : HasPatterns ends left (lists_in old firsts ends)
  has_patterns = record {
    count = MatchRows.lists_count old firsts ends (ends_quit specials.are);
    slices = ap (slices_from 0) s.patterns;
    pattern_ids = ap (λ (ls : List (List ℕ)). concat ls) s.patterns;
  }

  pub lists_are : match_lists left ≡ lists
  lists_are = MatchRows.lists_are specials has_patterns ∙ sym s.patterns

  pub joined_lists : AreJoined left
  joined_lists = MatchRows.joined specials has_patterns

  -- ---- labels

  pub label_is : (row : ℕ) → row < length firsts → after.machine.label row ≡ before.machine.label (first row)
  label_is row h =
      label_of_lists specials old firsts has_patterns s.kept.in_order.sound.is_table row (omega (arith, size))
      (first_below numbered row h)
      (λ one. sym (first_number numbered row h) ∙ ap number one ∙ number_one numbered)
      (λ one. ap first one ∙ first_one numbered) (match_kind s.kept row)

  pub quotient : IsQuotient before numbers firsts after
  quotient = record {
    size = size;
    entries = entry_is;
    nexts = λ row unit h u. next_is row unit (omega (arith, size)) u;
    labels = λ row h. label_is row (omega (arith, size));
    dead_only = λ row h. refl;
    settings = refl;
  }
