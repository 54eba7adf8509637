-- What each change leaves true of a table.
use Rattle.rx_spec.proofs.Prelude.{common_steps, ◌≡◌, ℕ, ◌+◌, ◌-◌, ◌*◌, ◌%◌, ◌^◌, ◌<◌, ◌≤◌, ◌≢◌, ◌⊎◌, Option, Some}
use Rattle.rx_spec.proofs.Prelude.{None, Bool, true, false, if◌then◌else◌, List, ◌++◌, length, slice_index, refl, ap}
use Rattle.rx_spec.proofs.Prelude.{sym, ◌∙◌, subst, ⊎_elim, arith, length-append, length-take-le, inl, inr, slice_set}
use Rattle.rx_spec.proofs.Prelude.{replicate, pow-le-pow_right, cases_lt, get_or-replicate, length-replicate}
use Rattle.rx_spec.proofs.Prelude.{get_or_past, get_or-take, pow_pos, mod-mul-add, mul-le, length-map-range_with_len}
use Rattle.rx_spec.proofs.Prelude.{start_of_byte, max_id}
use Rattle.std.proofs.lemmas.List.{length-set}
use Rattle.rx_lemmas.proofs.ClassNumbers.{stride_holds, stride_within}
use Rattle.rx_base.specs.ByteClasses.{AreClasses, alphabet_len}
use Rattle.rx_dense.specs.Layouts.{Layout, IsRowId, AreRows, AreStarts, AreLists, IsShaped, ids_of, row_count}
use Rattle.rx_dense.specs.Layouts.{start_entries, stride}
use Rattle.rx_search.specs.Starts.{IsId}
use Rattle.rx_dense.specs.declared.special.Special.{Special}
use Rattle.rx_dense.specs.Builder.{AreSwapped, Beginning, IsCopied, IsOutside, initial, with_row, with_rows}
use Rattle.rx_dense.proofs.Rows.{IsId-row_id, IsRowId-id, alphabet_few, multiple_within, no_more}

-- ---- parts that stay

pub id_kept : (l m : Layout) (id : ℕ) → m.stride2 ≡ l.stride2 → length l.words ≤ length m.words → IsRowId l id
    → IsRowId m id
id_kept l m id s w h = record { whole = rw s h.whole; below = (let below = h.below in rw s (omega arith)) }

pub rows_kept : (l m : Layout) → m.classes ≡ l.classes → m.stride2 ≡ l.stride2 → m.words ≡ l.words → AreRows l
    → AreRows m
rows_kept l m c s w h = record {
  classes = rw c h.classes;
  exponent = rw s h.exponent;
  fits = rw (c, s) h.fits;
  whole = rw (w, s) h.whole;
  two = rw (s, w) h.two;
  few = rw (w, s) h.few;
  next_ids = λ k b.
      let there : k < length l.words = omega (arith, ap length w) in
      let same : length l.words ≤ length m.words = omega (arith, ap length w) in
      subst (λ (ws : List ℕ). IsRowId m (slice_index ws k)) (sym w) (id_kept l m _ s same (h.next_ids k there));
  past_alphabet = λ k b past.
      let there : k < length l.words = omega (arith, ap length w) in
      rw w (h.past_alphabet k there (rw (c, s) at past));
}

pub starts_kept : (l m : Layout) → m.stride2 ≡ l.stride2 → length l.words ≤ length m.words → m.contexts ≡ l.contexts
    → m.pattern_starts ≡ l.pattern_starts → m.starts ≡ l.starts → AreStarts l → AreStarts m
starts_kept l m s w c p e h = grind (arith, common_steps)

pub lists_kept : (l m : Layout) → m.pattern_len ≡ l.pattern_len → m.slices ≡ l.slices → m.pattern_ids ≡ l.pattern_ids
    → length m.accels ≡ length l.accels
    → AreLists l → AreLists m
lists_kept l m n s p a h = grind (arith, common_steps)

-- ---- another entry

at_column : (id column s : ℕ) → id % s ≡ 0 → column < s → (id + column) % s ≡ column
at_column id column s whole h = grind (arith, common_steps)

set_keeps : (P : ℕ → ℕ → Type 0) (l : List ℕ) (at v : ℕ) → at < length l → P at v
    → ((k : ℕ) → k < length l → P k (slice_index l k)) → (k : ℕ) → k < length l → P k (slice_index (slice_set l at v) k)
set_keeps P l at v within new old k b = grind (arith, common_steps)

-- a word of a row within the alphabet
pub rows_set : (l m : Layout) (id column next : ℕ) → m.classes ≡ l.classes → m.stride2 ≡ l.stride2
    → m.words ≡ slice_set l.words (id + column) next → IsRowId l id → column < alphabet_len l.classes
    → IsRowId l next → AreRows l → AreRows m
rows_set l m id column next c s w is within next_is h =
    let count : length m.words ≡ length l.words = ap length w ∙ length-set l.words (id + column) next in
    let fits = h.fits in
    let place : id + column < length l.words = omega arith in
    let at : (id + column) % stride l ≡ column = at_column id column (stride l) is.whole (omega arith) in
    let same : length l.words ≤ length m.words = omega arith in
    record {
      classes = rw c h.classes;
      exponent = rw s h.exponent;
      fits = rw (c, s) h.fits;
      whole = rw (count, s) h.whole;
      two = rw (s, count) h.two;
      few = rw (count, s) h.few;
      next_ids = λ k b.
          let there : k < length l.words = omega arith in
          subst (λ (ws : List ℕ). IsRowId m (slice_index ws k)) (sym w)
          (id_kept l m _ s same
          (set_keeps (λ k x. IsRowId l x) l.words (id + column) next place next_is h.next_ids k there));
      past_alphabet = λ k b past.
          let there : k < length l.words = omega arith in
          rw w (set_keeps (λ k x. alphabet_len l.classes ≤ k % stride l → x ≡ 0) l.words (id + column) next place
          (λ e. absurd (omega arith)) h.past_alphabet k there (rw (c, s) at past));
    }

-- a start entry
pub starts_set : (l m : Layout) (place id : ℕ) → m.stride2 ≡ l.stride2 → m.words ≡ l.words → m.contexts ≡ l.contexts
    → m.pattern_starts ≡ l.pattern_starts → m.starts ≡ slice_set l.starts place id → place < length l.starts
    → IsRowId l id → AreStarts l → AreStarts m
starts_set l m place id s w c p e within is h = grind (arith, common_steps)

-- ---- a row more

pub zero_id : (l : Layout) → stride l ≤ length l.words → IsRowId l 0
zero_id l h = grind (arith, common_steps)

more_whole : (n s : ℕ) → 0 < s → n % s ≡ 0 → (n + s) % s ≡ 0
more_whole n s some h = grind (arith, common_steps)

pub rows_more : (l m : Layout) → m.classes ≡ l.classes → m.stride2 ≡ l.stride2
    → m.words ≡ l.words ++ replicate (stride l) 0 → length l.words ≤ max_id → AreRows l → AreRows m
rows_more l m c s w few h =
    let count : length m.words ≡ length l.words + stride l =
    ap length w ∙ length-append l.words (replicate (stride l) 0)
    ∙ ap (λ n. length l.words + n) (length-replicate (stride l) 0) in
    let none : IsRowId m 0 = zero_id m (rw s (omega arith)) in
    let two = h.two in
    record {
      classes = rw c h.classes;
      exponent = rw s h.exponent;
      fits = rw (c, s) h.fits;
      whole = rw (count, s) (more_whole (length l.words) (stride l) (pow_pos l.stride2) h.whole);
      two = rw (s, count) (omega arith);
      few = rw (count, s) (omega arith);
      next_ids = λ k b.
          ⊎_elim
          (λ (old : k < length l.words).
          subst (IsRowId m) (sym (grind (arith, common_steps))) (id_kept l m _ s (omega arith) (h.next_ids k old)))
          (λ (new : length l.words ≤ k). subst (IsRowId m) (sym (new_word k new (omega arith))) none)
          (cases_lt k (length l.words));
      past_alphabet = λ k b past.
          ⊎_elim
          (λ (old : k < length l.words).
          (grind (arith, common_steps)) ∙ h.past_alphabet k old (rw (c, s) at past))
          (λ (new : length l.words ≤ k). new_word k new (omega arith))
          (cases_lt k (length l.words));
    }
  where
    new_word : (k : ℕ) → length l.words ≤ k → k < length l.words + stride l → slice_index m.words k ≡ 0
    new_word k low high = grind (arith, common_steps)

-- ---- each call's change

pub shaped_special : (l : Layout) (special : Special) → IsShaped l → IsShaped (record l { special = special })
shaped_special l special h =
    let m : Layout = record l { special = special } in
    record {
      rows = rows_kept l m refl refl refl h.rows;
      starts = starts_kept l m refl (omega arith) refl refl refl h.starts;
      lists = lists_kept l m refl refl refl refl h.lists;
    }

pub shaped_universal : (l : Layout) (unanchored anchored : Option ℕ) → IsShaped l
    → IsShaped (record l { universal_unanchored = unanchored; universal_anchored = anchored })
shaped_universal l unanchored anchored h =
    let m : Layout = record l { universal_unanchored = unanchored; universal_anchored = anchored } in
    record {
      rows = rows_kept l m refl refl refl h.rows;
      starts = starts_kept l m refl (omega arith) refl refl refl h.starts;
      lists = lists_kept l m refl refl refl refl h.lists;
    }

pub shaped_accels : (l : Layout) (accels : List (List ℕ)) → length accels < 2 ^ 32 → IsShaped l
    → IsShaped (record l { accels = accels })
shaped_accels l accels few h =
    record {
      rows = rows_kept l (record l { accels = accels }) refl refl refl h.rows;
      starts = starts_kept l (record l { accels = accels }) refl (omega arith) refl refl refl h.starts;
      lists = record {
        few_patterns = h.lists.few_patterns;
        pairs = h.lists.pairs;
        few_rows = h.lists.few_rows;
        few = h.lists.few;
        within = h.lists.within;
        few_accels = few;
      };
    }

pub shaped_set : (l : Layout) (id column next : ℕ) → IsRowId l id → column < alphabet_len l.classes → IsRowId l next
    → IsShaped l → IsShaped (record l { words = slice_set l.words (id + column) next })
shaped_set l id column next is within next_is h =
    let m : Layout = record l { words = slice_set l.words (id + column) next } in
    record {
      rows = rows_set l m id column next refl refl refl is within next_is h.rows;
      starts = starts_kept l m refl (omega (arith, length-set l.words (id + column) next)) refl refl refl h.starts;
      lists = lists_kept l m refl refl refl refl h.lists;
    }

pub shaped_start : (l : Layout) (place id : ℕ) → place < length l.starts → IsRowId l id → IsShaped l
    → IsShaped (record l { starts = slice_set l.starts place id })
shaped_start l place id within is h =
    let m : Layout = record l { starts = slice_set l.starts place id } in
    record {
      rows = rows_kept l m refl refl refl h.rows;
      starts = starts_set l m place id refl refl refl refl refl within is h.starts;
      lists = lists_kept l m refl refl refl refl h.lists;
    }

pub shaped_row : (l : Layout) → length l.words ≤ max_id → IsShaped l → IsShaped (with_row l)
shaped_row l few h = record {
  rows = rows_more l (with_row l) refl refl refl few h.rows;
  starts =
      starts_kept l (with_row l) refl (omega (arith, length-append l.words (replicate (stride l) 0))) refl refl refl
      h.starts;
  lists = lists_kept l (with_row l) refl refl refl refl h.lists;
}

-- the id of that row
pub new_id : (l : Layout) → IsShaped l → IsId (ids_of (with_row l)) (length l.words)
new_id l h =
    IsId-row_id (with_row l) (length l.words) record {
      whole = h.rows.whole;
      below =
          omega (
            arith,
            length-append l.words (replicate (stride l) 0),
            length-replicate (stride l) (let x : ℕ = 0 in x),
          );
    }

-- ---- a table that is begun

pub zero_at : (n k : ℕ) → slice_index (replicate n 0) k ≡ 0
zero_at n k = grind (arith, common_steps, get_or-replicate, get_or_past, length-replicate, cases_lt)

pub shaped_initial : (b : Beginning) → AreClasses b.classes → b.pattern_len ≤ 2147483647 → IsShaped (initial b)
shaped_initial b are small =
    let l : Layout = initial b in
    let alphabet : alphabet_len b.classes ≤ 257 = alphabet_few b.classes are in
    let within = stride_within (alphabet_len b.classes) (omega arith) in
    let words : length l.words ≡ 2 * stride l = length-replicate (2 * stride l) 0 in
    let id : IsRowId l 0 = zero_id l (omega arith) in
    let width : stride l ≤ 2 ^ 9 = pow-le-pow_right (omega arith) within.1 in
    let entries : length l.starts ≡ start_entries l.pattern_starts =
    length-replicate (start_entries l.pattern_starts) 0 in
    let even : 2 * stride l + 0 ≡ 2 * stride l = omega arith in
    record {
      rows = record {
        classes = are;
        exponent = within.1;
        fits = stride_holds (alphabet_len b.classes) (omega arith);
        whole = subst (λ x. x % stride l ≡ 0) (even ∙ sym words) (mod-mul-add 2 (stride l) 0 (pow_pos l.stride2));
        two = omega arith;
        few = omega arith;
        next_ids = λ k h. subst (IsRowId l) (sym (zero_at (2 * stride l) k)) id;
        past_alphabet = λ k h past. zero_at (2 * stride l) k;
      };
      starts = record {
        contexts = length-map-range_with_len (start_of_byte b.line_terminator) 0 256;
        count = entries;
        small = few_entries b.pattern_starts entries;
        start_ids = λ k h. subst (IsRowId l) (sym (zero_at (start_entries l.pattern_starts) k)) id;
      };
      lists = record {
        few_patterns = omega arith;
        pairs = refl;
        few_rows = omega arith;
        few = omega arith;
        within = λ i h. absurd (omega arith);
        few_accels = omega arith;
      };
    }
  where
    few_entries : (own : Bool) → length (initial b).starts ≡ start_entries (if own then Some b.pattern_len else None)
        → length (initial b).starts ≤ 12 + 6 * (max_id + 1)
    few_entries true e = omega arith
    few_entries false e = omega arith

-- ---- other words

pub shaped_words : (l : Layout) (ws : List ℕ) → length ws ≡ length l.words
    → ((k : ℕ) → k < length l.words → IsRowId l (slice_index ws k))
    → ((k : ℕ) → k < length l.words → alphabet_len l.classes ≤ k % stride l → slice_index ws k ≡ 0)
    → IsShaped l → IsShaped (record l { words = ws })
shaped_words l ws count ids zeros h =
    let m : Layout = record l { words = ws } in
    record {
      rows = record {
        classes = h.rows.classes;
        exponent = h.rows.exponent;
        fits = h.rows.fits;
        whole = rw count h.rows.whole;
        two = rw count h.rows.two;
        few = rw count h.rows.few;
        next_ids = λ k b. id_kept l m (slice_index ws k) refl (omega arith) (ids k (omega arith));
        past_alphabet = λ k b past. zeros k (omega arith) past;
      };
      starts = starts_kept l m refl (omega arith) refl refl refl h.starts;
      lists = lists_kept l m refl refl refl refl h.lists;
    }

-- ---- other start entries

pub shaped_starts : (l : Layout) (ids : List ℕ) → length ids ≡ length l.starts
    → ((k : ℕ) → k < length l.starts → IsRowId l (slice_index ids k)) → IsShaped l
    → IsShaped (record l { starts = ids })
shaped_starts l ids count are h =
    let m : Layout = record l { starts = ids } in
    record {
      rows = rows_kept l m refl refl refl h.rows;
      starts = record {
        contexts = h.starts.contexts;
        count = rw count h.starts.count;
        small = rw count h.starts.small;
        start_ids = λ k b. id_kept l m (slice_index ids k) refl (omega arith) (are k (omega arith));
      };
      lists = lists_kept l m refl refl refl refl h.lists;
    }

-- ---- rows that change places

-- the id of a row, in a table that is the same
pub IsRowId-same : {l m : Layout} {id : ℕ} → l ≡ m → IsId (ids_of m) id → IsRowId l id
IsRowId-same {l} {m} {id} same is = subst (λ (x : Layout). IsRowId x id) (sym same) (IsRowId-id m id is)

-- two rows that aren't one lie apart
pub rows_apart : (l : Layout) (x y : ℕ) → IsRowId l x → IsRowId l y → x ≢ y → (x + stride l ≤ y) ⊎ (y + stride l ≤ x)
rows_apart l x y x_is y_is ne = grind (arith, common_steps)

-- the places of rows
module _ (l : Layout) where
  by_row : {X : Type 0} (id k : ℕ) → ((c : ℕ) → c < stride l → k ≡ id + c → X) → (IsOutside id (stride l) k → X) → X
  by_row id k inside outside =
      ⊎_elim
      (λ (a : k < id). outside (inl a))
      (λ (a : id ≤ k).
      ⊎_elim
      (λ (b : k < id + stride l). inside (k - id) (omega arith) (omega arith))
      (λ (b : id + stride l ≤ k). outside (inr b))
      (cases_lt k (id + stride l)))
      (cases_lt k id)

  -- the word is an old one of the same column
  abbrev IsOld : List ℕ → ℕ → Type 0
  IsOld ws k =
      (j : ℕ) × (j < length l.words) × (k % stride l ≡ j % stride l) × (slice_index ws k ≡ slice_index l.words j)

  shaped_old : (ws : List ℕ) → length ws ≡ length l.words → ((k : ℕ) → k < length l.words → IsOld ws k) → IsShaped l
      → IsShaped (record l { words = ws })
  shaped_old ws count old h =
      shaped_words l ws count
      (λ k b. let o = old k b in subst (IsRowId l) (sym o.3) (h.rows.next_ids o.0 o.1))
      (λ k b past. let o = old k b in o.3 ∙ h.rows.past_alphabet o.0 o.1 (omega (arith, o.2, past)))
      h

  -- in a row that is as another was
  in_other : (ws : List ℕ) (id other k : ℕ) → IsRowId l id → IsRowId l other
      → ((c : ℕ) → c < stride l → slice_index ws (id + c) ≡ slice_index l.words (other + c))
      → (c : ℕ) → c < stride l → k ≡ id + c → IsOld ws k
  in_other ws id other k is other_is same c low e = (
    other + c,
    (let below = other_is.below in omega arith),
    ap (λ x. x % stride l) e ∙ (grind (arith, common_steps, at_column)),
    ap (slice_index ws) e ∙ same c low,
  )

-- two rows have changed places
pub shaped_swap : (l : Layout) (ws : List ℕ) (x y : ℕ) → IsShaped l → IsRowId l x → IsRowId l y
    → AreSwapped (stride l) l.words ws x y → IsShaped (record l { words = ws })
shaped_swap l ws x y h x_is y_is swapped =
    shaped_old l ws swapped.count
    (λ k b. by_row l x k (in_other l ws x y k x_is y_is swapped.at_first)
    (λ outside_x. by_row l y k (in_other l ws y x k y_is x_is swapped.at_second)
    (λ outside_y. (k, b, refl, swapped.others k outside_x outside_y)))) h

-- a row is as another one
pub shaped_copy : (l : Layout) (ws : List ℕ) (from to : ℕ) → IsShaped l → IsRowId l from → IsRowId l to
    → IsCopied (stride l) l.words ws from to → IsShaped (record l { words = ws })
shaped_copy l ws from to h from_is to_is copied =
    shaped_old l ws copied.count
    (λ k b. by_row l to k (in_other l ws to from k to_is from_is copied.there)
    (λ outside. (k, b, refl, copied.others k outside))) h

-- fewer rows
pub shaped_cut : (l : Layout) (rows : ℕ) → 2 ≤ rows → rows ≤ row_count l
    → ((k : ℕ) → k < rows * stride l → slice_index l.words k < rows * stride l)
    → ((k : ℕ) → k < length l.starts → slice_index l.starts k < rows * stride l)
    → IsShaped l → IsShaped (with_rows l rows)
shaped_cut l rows two within cut_rows cut_starts h =
    let m : Layout = with_rows l rows in
    let n : ℕ = rows * stride l in
    let some = pow_pos l.stride2 in
    let fits : n ≤ length l.words =
    omega (arith, mul-le rows (stride l) (row_count l) (stride l) within (omega arith)) in
    let count : length m.words ≡ n = length-take-le n l.words fits in
    let whole : n % stride l ≡ 0 = subst (λ x. x % stride l ≡ 0) (no_more n) (mod-mul-add rows (stride l) 0 some) in
    let kept = λ (k : ℕ) (b : k < n). get_or-take n l.words k 0 b in
    let id = λ (id : ℕ) (is : IsRowId l id) (b : id < n).
    let there : IsRowId m id = record {
      whole = is.whole;
      below = rw count (multiple_within id (stride l) n is.whole whole b);
    } in
    there in
    let few = h.rows.few in
    record {
      rows = record {
        classes = h.rows.classes;
        exponent = h.rows.exponent;
        fits = h.rows.fits;
        whole = rw count whole;
        two = rw count (mul-le 2 (stride l) rows (stride l) two (omega arith));
        few = rw count (omega arith);
        next_ids = λ k b.
            let low : k < n = omega arith in
            subst (IsRowId m) (sym (kept k low))
            (id (slice_index l.words k) (h.rows.next_ids k (omega arith)) (cut_rows k low));
        past_alphabet = λ k b past.
            let low : k < n = omega arith in
            kept k low ∙ h.rows.past_alphabet k (omega arith) past;
      };
      starts = record {
        contexts = h.starts.contexts;
        count = h.starts.count;
        small = h.starts.small;
        start_ids = λ k b. id (slice_index l.starts k) (h.starts.start_ids k b) (cut_starts k b);
      };
      lists = lists_kept l m refl refl refl refl h.lists;
    }
