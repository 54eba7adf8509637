-- The rows that are kept: their kinds, and which of them match.
use Rattle.rx_spec.proofs.Prelude.{common_steps, ◌≡◌, ℕ, zero, suc, ◌<◌, ◌≤◌, nat_le, nat_lt, List, length, slice_index}
use Rattle.rx_spec.proofs.Prelude.{sym, ap, ◌∙◌, subst, arith, Table, is_match}
use Rattle.rx_minimize.proofs.Prelude.{AreBlocks, AreFirsts, AreKindEnds, AreRenumbered, AreRows, HaveMatches}
use Rattle.rx_minimize.proofs.Prelude.{IsInOrder, IsPlain, Layout, is_start_row, kind_of, low_match, row_count}
use Rattle.rx_minimize.proofs.Prelude.{table_of}
use Rattle.rx_order.proofs.KindNumbers.{between, high_above, kind_high, kind_matches}
use Rattle.rx_order.proofs.KindRanges.{before_end, behind_end, ends_rise, is_between}
use Rattle.rx_minimize.proofs.NewIds.{firsts_few}
use Rattle.rx_minimize.proofs.Quotients.{AreNumbered, first_one, first_zero, two_firsts}

-- the first rows of the blocks of a table, and where their kinds end
pub record IsKept (old : Layout) (blocks numbers firsts ends : List ℕ) : Type 0 where
  pub in_order : IsInOrder old
  pub plain : IsPlain old
  pub are_blocks : AreBlocks (table_of old) blocks
  pub renumbered : AreRenumbered blocks numbers firsts
  pub within : (kind : ℕ) → kind < 8 → slice_index ends kind ≤ length firsts
  pub to_end : (place kind : ℕ) → place < length firsts → kind < 8
      → nat_lt place (slice_index ends kind) ≡ nat_le (kind_of old (slice_index firsts place)) kind

module _ {old : Layout} {blocks numbers firsts ends : List ℕ} (s : IsKept old blocks numbers firsts ends) where
  abbrev before : Table
  before = table_of old

  abbrev first : ℕ → ℕ
  first = slice_index firsts

  pub numbered : AreNumbered before blocks numbers firsts
  numbered = record { is = s.in_order.sound.is_table; are = s.are_blocks; renumbered = s.renumbered }

  pub first_low : (place : ℕ) → place ≤ 1 → first place ≡ place
  first_low zero h = first_zero numbered
  first_low (suc zero) h = first_one numbered
  first_low (suc (suc place)) h = absurd (omega (arith, h))

  pub first_high : (place : ℕ) → 1 < place → place < length firsts → 1 < first place
  first_high place high h = omega (arith, s.renumbered.are_firsts.rising 1 place high h, first_one numbered)

  -- ---- kinds

  abbrev pub kind_at : ℕ → ℕ
  kind_at place = kind_of old (first place)

  pub kind_ends : AreKindEnds (length firsts) kind_at ends
  kind_ends = record {
    two = two_firsts numbered;
    dead = ap (kind_of old) (first_zero numbered);
    quit = ap (kind_of old) (first_one numbered);
    others = λ place high h. grind (arith, common_steps, kind_high, before.is_accelerated, first_high, high_above);
    within = s.within;
    to_end = s.to_end;
  }

  pub match_kind : (place : ℕ) → is_between 1 3 (kind_at place) ≡ is_match before (first place)
  match_kind place =
      let row : ℕ = first place in
      kind_matches row (is_match before row) (before.is_accelerated row) (is_start_row old row)
      (low_match before s.in_order.sound.is_table row)

  pub have_matches : AreRows old → HaveMatches old firsts ends
  have_matches rows =
      let are_firsts : AreFirsts (row_count old) firsts =
      subst (λ n. AreFirsts n firsts) s.are_blocks.count s.renumbered.are_firsts in
      record {
        are_rows = rows;
        few = firsts_few are_firsts;
        below = are_firsts.below;
        from = ends_rise kind_ends 1 3 (omega arith) (omega arith);
        to = s.within 3 (omega arith);
        matches = λ place low high.
            let within = s.within 3 (omega arith) in
            let h : place < length firsts = omega arith in
            let above = behind_end kind_ends place 1 h (omega arith) low in
            let upto = before_end kind_ends place 3 h (omega arith) high in
            sym (match_kind place)
            ∙ between 1 3 (kind_at place) above upto;
      }
