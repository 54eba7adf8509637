-- How a text goes on of which the last bytes are kept.
use Rattle.std.proofs.lemmas.Grind.{common_steps}
use Rattle.rx_spec.proofs.Prelude.{◌≡◌, ℕ, ◌+◌, ◌-◌, ◌<◌, ◌≤◌, min, ◌++◌, List, [], length, slice_index, Option, Some}
use Rattle.rx_spec.proofs.Prelude.{None, ap, refl, sym, ◌∙◌, subst, ⊎_elim, arith, take, drop, length-append}
use Rattle.rx_spec.proofs.Prelude.{length-take-le, cases_lt, get_or_default, MatchOption, Consumes, AreBytes}
use Rattle.std.proofs.Math.ListN.{get_or-append}
use Rattle.memchr.specs.Find.{OccursAt}
use Rattle.rx_prefilter.specs.OnlyLiterals.{IsFirstPlace}
use Rattle.rx_transfer.proofs.Transfers.{consumes_more, consumes_none}
use Rattle.rx_prefilter.specs.Seeking.{AreKept, IsFirstShown, IsSought}
use Rattle.rx_prefilter.specs.declared.seek.Sought.{Sought}

-- what is looked for
pub record LiteralQuery : Type 0 where
  pub literal : List ℕ
  pub start : ℕ
  pub end : ℕ

-- a source was read so far
pub record IsUnderWay (before after : Option (List ℕ)) (asked : LiteralQuery) (sought : Sought) (buffer : List ℕ)
    (kept : ℕ) : Type 0 where
  pub text : List ℕ
  pub taken : Consumes before after text
  pub is_sought : IsSought text asked.literal asked.start asked.end sought.len sought.place
  pub are_kept : AreKept text asked.literal buffer kept

-- nothing of it
pub none_read : (left : Option (List ℕ)) (asked : LiteralQuery) (buffer : List ℕ) → 0 < length asked.literal
    → IsUnderWay left left asked (record { len = 0; place = None }) buffer 0
none_read left asked buffer some = record {
  text = [];
  taken = consumes_none left;
  is_sought = record {
    count = refl;
    bytes = λ k d h. absurd (omega arith);
    first = λ at low high o. omega arith;
  };
  are_kept = record {
    enough = omega arith;
    few = omega arith;
    within = omega arith;
    last = λ i h. absurd (omega arith);
  };
}

-- a window shows the bytes that were kept and those that were read then
pub record Shows (buffer : List ℕ) (kept : ℕ) (read window : List ℕ) : Type 0 where
  pub count : length window ≡ kept + length read
  pub bytes : AreBytes window
  pub old : (i : ℕ) → i < kept → slice_index window i ≡ slice_index buffer i
  pub new : (i : ℕ) → i < length read → slice_index window (kept + i) ≡ slice_index read i

-- bytes that were read behind the first ones of a buffer, which stayed
module _ (kept room count : ℕ) (old new : List ℕ) (same : take kept new ≡ take kept old)
    (few : count ≤ length (take room (drop kept new)))
    (within : kept ≤ length new) where
  pub read_len : length (take count (take room (drop kept new))) ≡ count
  read_len = length-take-le count (take room (drop kept new)) few

  pub shows_read : AreBytes (take (kept + count) new)
      → Shows old kept (take count (take room (drop kept new))) (take (kept + count) new)
  shows_read bytes =
      grind (arith, common_steps)

module _ {before after : Option (List ℕ)} {asked : LiteralQuery} {sought : Sought} {buffer : List ℕ} {kept : ℕ}
    (u : IsUnderWay before after asked sought buffer kept) {read window : List ℕ}
    (shows : Shows buffer kept read window) where
  abbrev pub longer : List ℕ
  longer = u.text ++ read

  abbrev base : ℕ
  base = length u.text - kept

  abbrev n : ℕ
  n = length asked.literal

  longer_len : length (u.text ++ read) ≡ length u.text + length read
  longer_len = length-append u.text read

  old_byte : (i : ℕ) → i < length u.text → slice_index (u.text ++ read) i ≡ slice_index u.text i
  old_byte i h = get_or-append u.text read 0 i h

  -- the window is what the text then ends with
  pub window_byte : (i : ℕ) → i < length window
      → slice_index window i ≡ slice_index (u.text ++ read) (length u.text - kept + i)
  window_byte i h =
      grind (arith, common_steps)

  bytes : AreBytes (u.text ++ read)
  bytes k d h =
      let all = longer_len in
      let within = u.are_kept.within in
      let count = shows.count in
      ⊎_elim
      (λ (low : k < length u.text).
      subst (λ (b : ℕ). b < 256) (sym (get_or-append u.text read d k low)) (u.is_sought.bytes k d low))
      (λ (high : length u.text ≤ k).
      let at = k - (length u.text - kept) in
      let there : length u.text - kept + at ≡ k = omega arith in
      subst (λ (b : ℕ). b < 256)
      (window_byte at (omega (arith, h)) ∙ ap (slice_index (u.text ++ read)) there
      ∙ get_or_default (u.text ++ read) k 0 d h)
      (shows.bytes at 0 (omega (arith, h))))
      (cases_lt k (length u.text))

  -- where the literal occurs in the window, it occurs in the text, and the other way round
  from_window : (at : ℕ) → length u.text - kept ≤ at → OccursAt window asked.literal (at - (length u.text - kept))
      → OccursAt (u.text ++ read) asked.literal at
  from_window at high o =
      let all = longer_len in
      let count = shows.count in
      let within = u.are_kept.within in
      let fits = o.fits in
      record {
        fits = omega (arith, fits);
        reads = λ i h.
            let there : length u.text - kept + (at - (length u.text - kept) + i) ≡ at + i = omega arith in
            ap (slice_index (u.text ++ read)) (sym there)
            ∙ sym (window_byte (at - (length u.text - kept) + i) (omega arith))
            ∙ o.reads i h;
      }

  in_window : (at : ℕ) → length u.text - kept ≤ at → OccursAt (u.text ++ read) asked.literal at
      → OccursAt window asked.literal (at - (length u.text - kept))
  in_window at high o =
      let all = longer_len in
      let count = shows.count in
      let within = u.are_kept.within in
      let fits = o.fits in
      record {
        fits = omega (arith, fits);
        reads = λ i h.
            let there : length u.text - kept + (at - (length u.text - kept) + i) ≡ at + i = omega arith in
            window_byte (at - (length u.text - kept) + i) (omega (arith, fits, h))
            ∙ ap (slice_index (u.text ++ read)) there ∙ o.reads i h;
      }

  -- the same of the text before
  from_old : (at : ℕ) → OccursAt u.text asked.literal at → OccursAt (u.text ++ read) asked.literal at
  from_old at o =
      grind (arith, common_steps)

  in_old : (at : ℕ) → at + length asked.literal ≤ length u.text → OccursAt (u.text ++ read) asked.literal at
      → OccursAt u.text asked.literal at
  in_old at fits o = record {
    fits = fits;
    reads = λ i h. sym (old_byte (at + i) (omega arith)) ∙ o.reads i h;
  }

  abbrev IsFound : Option ℕ → Type 0
  IsFound place =
      IsFirstPlace (u.text ++ read) asked.literal asked.start (min asked.end (sought.len + length read)) place

  -- nowhere before the window, if it was found nowhere
  none_before : IsFirstPlace u.text asked.literal asked.start (min asked.end sought.len) None → (at : ℕ)
      → asked.start ≤ at → at + length asked.literal ≤ asked.end → at < length u.text - kept
      → OccursAt (u.text ++ read) asked.literal at → ⊥
  none_before none at low high before o =
      let fits : at + length asked.literal ≤ length u.text = omega arith in
      none at low (omega arith) (in_old at fits o)

  -- it was found before
  found_before : (place : ℕ) → IsFirstPlace u.text asked.literal asked.start (min asked.end sought.len) (Some place)
      → IsFound (Some place)
  found_before place is =
      let high = is.0.high in
      let fits = is.1.fits in (
        record {
          low = is.0.low;
          high = omega arith;
          before = λ at low h o.
              is.0.before at low h (in_old at (omega arith) o);
        },
        from_old place is.1,
      )

  -- or is found now, or not yet
  found_now : (place : Option ℕ)
      → IsFirstPlace u.text asked.literal asked.start (min asked.end sought.len) None
      → IsFirstShown window asked.literal (sought.len - kept) asked.start asked.end place → IsFound place
  found_now None none shown = λ at low high o.
      ⊎_elim
      (λ (before : at < length u.text - kept). none_before none at low (omega arith) before o)
      (λ (after : length u.text - kept ≤ at).
      let here : length u.text - kept ≡ sought.len - kept = omega arith in
      shown at low (omega arith) (
        omega arith,
        subst (λ (b : ℕ). OccursAt window asked.literal (at - b)) here (in_window at after o),
      ))
      (cases_lt at (length u.text - kept))
  found_now (Some place) none shown =
      let low = shown.1.0 in
      let high = shown.0.high in
      let here : sought.len - kept ≡ length u.text - kept = omega arith in
      let there = subst (λ (b : ℕ). OccursAt window asked.literal (place - b)) here shown.1.1 in (
        record {
          low = shown.0.low;
          high = omega arith;
          before = λ at first h o.
              ⊎_elim
              (λ (before : at < length u.text - kept).
              none_before none at first (omega arith) before o)
              (λ (after : length u.text - kept ≤ at).
              shown.0.before at first h (
                omega arith,
                subst (λ (b : ℕ). OccursAt window asked.literal (at - b)) (sym here) (in_window at after o),
              ))
              (cases_lt at (length u.text - kept));
        },
        from_window place (omega arith) there,
      )

  pub found_next : (place : Option ℕ)
      → MatchOption sought.place (IsFirstShown window asked.literal (sought.len - kept) asked.start asked.end place)
      (λ known. place ≡ Some known)
      → IsFirstPlace (u.text ++ read) asked.literal asked.start (min asked.end (sought.len + length read)) place
  found_next place next = by_known sought.place u.is_sought.first next
    where
      by_known : (known : Option ℕ) → IsFirstPlace u.text asked.literal asked.start (min asked.end sought.len) known
          → MatchOption known (IsFirstShown window asked.literal (sought.len - kept) asked.start asked.end place)
          (λ k. place ≡ Some k)
          → IsFound place
      by_known None none shown = found_now place none shown
      by_known (Some known) is same = subst IsFound (sym same) (found_before known is)

  -- so the source is read further
  pub read_more : {now : Option (List ℕ)} → Consumes after now read → (place : Option ℕ)
      → IsFirstPlace (u.text ++ read) asked.literal asked.start (min asked.end (sought.len + length read)) place
      → (buffer' : List ℕ) (kept' : ℕ) → kept' ≡ min (kept + length read) (length asked.literal - 1)
      → ((i : ℕ) → i < kept' → slice_index buffer' i ≡ slice_index window (kept + length read - kept' + i))
      → IsUnderWay before now asked (record { len = sought.len + length read; place = place }) buffer' kept'
  read_more {now} taken place found buffer' kept' kept_is last =
      let all = longer_len in
      let count = u.is_sought.count in
      let within = u.are_kept.within in
      let enough = u.are_kept.enough in
      record {
        text = u.text ++ read;
        taken = consumes_more before after now u.text read u.taken taken;
        is_sought = record { count = all ∙ ap (λ (k : ℕ). k + length read) count; bytes = bytes; first = found };
        are_kept = record {
          enough = omega arith;
          few = omega arith;
          within = omega arith;
          last = λ i h.
              let there : length u.text - kept + (kept + length read - kept' + i)
              ≡ length (u.text ++ read) - kept' + i = omega arith in
              last i h ∙ window_byte (kept + length read - kept' + i) (omega arith)
              ∙ ap (slice_index (u.text ++ read)) there;
        };
      }
