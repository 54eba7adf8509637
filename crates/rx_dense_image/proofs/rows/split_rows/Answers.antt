use Rattle.rx_spec.proofs.Prelude.{◌≡◌, ℕ, ◌-◌, ◌^◌, sym, ap, subst, ◌∙◌}
use Rattle.rx_dense_image.specs.Rows.{ArePadded, AreReadRows, Rows}
use Rattle.rx_dense_image.specs.Bulk.{stand_below}
use Rattle.rx_dense_image.proofs.ColumnMasks.{IsFound, found_entries}
use Rattle.rx_dense_image.proofs.Padding.{AreCounted, read_rows}
use Rattle.rx_dense_image.proofs.rows.split_rows.Goals as goal

minus_same : (a b s t : ℕ) → a ≡ b → s ≡ t → a - s ≡ b - t
minus_same a b s t e f = cc

pub returns-clause-rows : goal.returns-clause-rows
returns-clause-rows c =
    let rows : Rows = record {
      classes = c.in_ok-classes.classes;
      stride2 = c.in_ok-stride2.stride2;
      words = c.in_ok-words.words.items;
    } in
    let counted : AreCounted rows c.in_ok-class_bytes.class_bytes.now c.count_of-rows.result c.in_ok-classes.stride =
    record {
      classes = c.in_ok-classes.ensures.value;
      of_stride = c.in_ok-classes.ensures.stride;
      few = c.count_of-rows.ensures.bound;
      len = c.in_ok-words.ensures.len;
      padded =
          subst (λ (n : ℕ). ArePadded (2 ^ rows.stride2) n rows.words) c.alphabet_len.ensures.value
          c.in_ok-words.ensures.past;
    } in
    read_rows counted

pub returns-clause-sound : goal.returns-clause-sound
returns-clause-sound c =
    let rows : Rows = record {
      classes = c.in_ok-classes.classes;
      stride2 = c.in_ok-stride2.stride2;
      words = c.in_ok-words.words.items;
    } in
    let read : AreReadRows rows = returns-clause-rows c in
    let greatest : ℕ = c.saturating_sub-greatest.result in
    let found : IsFound rows greatest c.in_ok-words.sound = record {
      whole = read.whole;
      is_last =
          c.saturating_sub-greatest.ensures
          ∙ minus_same _ _ _ _ (sym c.in_ok-words.ensures.len) c.in_ok-classes.ensures.stride.value;
      is_sound =
          c.in_ok-words.ensures.sound
          ∙ ap (λ (n : ℕ). stand_below (2 ^ rows.stride2) n greatest rows.words) c.alphabet_len.ensures.value;
    } in
    c.have_ids-sound.ensures ∙ found_entries found
