-- Tables in order that are sound.
use Rattle.rx_spec.proofs.Prelude.{common_steps, ◌≡◌, ℕ, ◌*◌, ◌%◌, ◌<◌, if◌then◌else◌, [], length, get_or, Option, Some}
use Rattle.rx_spec.proofs.Prelude.{ap, ap₂, ◌∙◌, refl, arith, and_parts, eqb-true, ltb-true, IsSound, Table}
use Rattle.rx_order.proofs.Prelude.{Layout, multiple_within, place_in_range, row-below, row_count, stride, table_of}
use Rattle.rx_order.proofs.Prelude.{universal_row}
use Rattle.rx_order.proofs.Ordered.{IsArranged, Sorting, specials, stride_same}
use Rattle.rx_order.proofs.KindRanges.{special_rows}
use Rattle.rx_order.proofs.Reordered.{words_count}
use Rattle.rx_order.proofs.Runs.{AreNames, AreSoundRows, HasNeedles, is_sound}

-- nothing else of a table changes
pub frame : {x : Sorting} {l new m : Layout} → IsArranged x l new m
    → m ≡ record l {
      words = m.words;
      starts = m.starts;
      slices = m.slices;
      pattern_ids = m.pattern_ids;
      special = m.special;
      accels = m.accels;
    }
frame {x} {l} {new} {m} a = grind (arith, common_steps)

some_is : (a b : ℕ) → Some a ≡ Some b → a ≡ b
some_is a b e = cc

pub universal_below : (m : Layout) (whole : length m.words % stride m ≡ 0) (id : Option ℕ) (row : ℕ)
    → universal_row m id ≡ Some row → row < row_count m
universal_below m whole id row e =
    grind (arith, common_steps, whole, and_parts, eqb-true, multiple_within, ltb-true, some_is, row-below)

module _ {x : Sorting} {l new m : Layout} (a : IsArranged x l new m) where
  whole : length m.words % stride m ≡ 0
  whole =
      ap₂ (λ (n w : ℕ). n % w)
      (ap (λ (b : Layout). length b.words) a.rest ∙ words_count a.reordered a.before) (stride_same a)
      ∙ a.before.are_rows.whole

  -- the rows are those of a table that is like the one before
  pub sound : {t : Table} → AreNames t (table_of m) → AreSoundRows t → (table_of l).settings ≡ t.settings
      → l.pattern_len ≡ t.pattern_len → HasNeedles (table_of m) → IsSound (table_of m)
  sound names rows settings patterns has =
      is_sound names rows
      (record {
        universal_unanchored = λ row e. universal_below m whole m.universal_unanchored row e;
        universal_anchored = λ row e. universal_below m whole m.universal_anchored row e;
        dead_only = λ row h. refl;
        settings = ap (λ (b : Layout). (table_of b).settings) (frame a) ∙ settings;
        pattern_len = ap (λ (b : Layout). b.pattern_len) (frame a) ∙ patterns;
      })
      has
      (λ row h e. ap (λ b. if b then get_or m.accels (place_in_range m m.special.min_accel (row * stride m)) []
      else []) e)
      (special_rows (specials a))
