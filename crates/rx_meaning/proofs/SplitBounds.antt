-- Where the answers lie of searches that pass over matches that split a character, and of two searches joined.
use Rattle.rx_spec.proofs.Prelude.{common_steps, ◌≡◌, ℕ, zero, suc, ◌-◌, ◌≤◌, ◌⊎◌, inl, ⊎_elim, Bool, true, false}
use Rattle.rx_spec.proofs.Prelude.{if◌then◌else◌, Some, None, Ok, Err, List, [], ◌∷◌, refl, subst, arith}
use Rattle.rx_spec.proofs.Prelude.{Contains-append_cases, Contains, flat_map, AreBytes, Query, IsFit, HalfMatch}
use Rattle.rx_spec.proofs.Prelude.{MatchError, Table, IsSound, HalfAnswer, half_search, Item, Ending, overlapping}
use Rattle.rx_spec.proofs.Prelude.{narrower, is_narrowest, unless_split, skip_splits, split_limit, skips_splits}
use Rattle.rx_spec.proofs.Prelude.{item_unsplit}
use Rattle.rx_spec.specs.Splits.{items_unsplit}
use Rattle.rx_spec.specs.declared.Direction.{Direction}
use Rattle.rx_lemmas.proofs.WalkBounds.{half_met}
use Rattle.rx_lemmas.proofs.Firsts.{Contains-here, Contains-there, Contains-nil}
use Rattle.rx_lemmas.proofs.ReadUnits.{narrower_bytes}
use Rattle.rx_lemmas.proofs.Reaches.{only_one}
use Rattle.rx_meaning.specs.Bounds.{IsInBounds, HalfUnsplitInBounds, OverlappingUnsplitQuits}
use Rattle.rx_meaning.specs.Bounds.{OverlappingUnsplitInBounds, IsNamed, Quitting, QuittingAgain, HalfUnsplitQuits}
use Rattle.rx_meaning.specs.Bounds.{narrowed}
use Rattle.rx_meaning.proofs.TableBounds.{half_in_bounds, overlapping_in_bounds, half_quits, overlapping_quits}

-- the span of a narrower query lies in the span
narrower_bounds : (direction : Direction) (q : Query) (n : ℕ) (h : HalfMatch) → IsInBounds (narrower direction q) n h
    → IsInBounds q n h
narrower_bounds Direction.Forward q n h b = record { low = omega arith; high = b.high; pattern = b.pattern }
narrower_bounds Direction.Reverse q n h b = record { low = b.low; high = omega arith; pattern = b.pattern }

narrower_names : (direction : Direction) (q : Query) (byte offset : ℕ) → IsNamed (narrower direction q) byte offset
    → IsNamed q byte offset
narrower_names Direction.Forward q byte offset b = record { low = omega arith; high = b.high; there = b.there }
narrower_names Direction.Reverse q byte offset b = record { low = b.low; high = omega arith; there = b.there }

narrower_fits : (direction : Direction) (q : Query) → q.start ≤ q.end → is_narrowest direction q ≡ false → IsFit q
    → IsFit (narrower direction q)
narrower_fits Direction.Forward q order wide fit = record { within = fit.within; ordered = omega arith }
narrower_fits Direction.Reverse q order wide fit = grind (arith, common_steps)

-- what is told was told by the search, or by the one that is made again
module _ (direction : Direction) (q : Query) (again : HalfAnswer) where
  -- by whether the match splits a character, and whether the search ends there
  abbrev sieved : HalfMatch → Bool → Bool → HalfAnswer
  sieved x splits ends = if splits then (if ends then Ok None else again) else Ok (Some x)

  told_again : (o : HalfAnswer) (h : HalfMatch) → unless_split direction q o again ≡ Ok (Some h)
      → (o ≡ Ok (Some h)) ⊎ (again ≡ Ok (Some h))
  told_again (Err error) h e = inl e
  told_again (Ok None) h e = inl e
  told_again (Ok (Some x)) h e = grind (arith, common_steps)

  error_again : (o : HalfAnswer) (error : MatchError) → unless_split direction q o again ≡ Err error
      → (o ≡ Err error)
      ⊎ ((x : HalfMatch) × (o ≡ Ok (Some x)) × (is_narrowest direction q ≡ false) × (again ≡ Err error))
  error_again (Err other) error e = inl e
  error_again (Ok None) error e = inl e
  error_again (Ok (Some x)) error e = grind (arith, common_steps)

module _ (t : Table) (sound : IsSound t) (direction : Direction) where
  abbrev search : Query → HalfAnswer
  search q = half_search t.machine t.settings direction q

  skipping_in_bounds : (n : ℕ) (q : Query) (h : HalfMatch) → AreBytes q.haystack
      → skip_splits search direction n q ≡ Ok (Some h) → IsInBounds q t.pattern_len h
  unfolding skip_splits
  skipping_in_bounds zero q h bytes e = grind (arith, common_steps)
  skipping_in_bounds (suc n) q h bytes e =
      ⊎_elim (λ (o : search q ≡ Ok (Some h)). half_in_bounds t sound direction q h bytes o)
      (λ (o : skip_splits search direction n (narrower direction q) ≡ Ok (Some h)).
      narrower_bounds direction q t.pattern_len h
      (skipping_in_bounds n (narrower direction q) h (narrower_bytes direction q bytes) o))
      (told_again direction q (skip_splits search direction n (narrower direction q)) (search q) h e)

  skipping_quits : (n : ℕ) (q : Query) (byte offset : ℕ) → IsFit q → AreBytes q.haystack
      → skip_splits search direction n q ≡ Err (MatchError.Quit byte offset)
      → IsNamed q byte offset × ((count : ℕ) × Quitting t direction (narrowed direction count q) byte offset)
  unfolding skip_splits narrowed
  skipping_quits zero q byte offset fit bytes e = grind (arith, common_steps)
  skipping_quits (suc n) q byte offset fit bytes e =
      let again = skip_splits search direction n (narrower direction q) in
      ⊎_elim (λ (o : search q ≡ Err (MatchError.Quit byte offset)).
      let quit = half_quits t sound direction q byte offset fit bytes o in (quit.0, (0, quit.1)))
      (λ (o : (x : HalfMatch) × (search q ≡ Ok (Some x)) × (is_narrowest direction q ≡ false)
      × (again ≡ Err (MatchError.Quit byte offset))).
      let order = (half_met t.machine t.settings direction q o.0 o.1).0 in
      let later = skipping_quits n (narrower direction q) byte offset (narrower_fits direction q order o.2 fit)
      (narrower_bytes direction q bytes) o.3 in
      (narrower_names direction q byte offset later.0, (suc later.1.0, later.1.1)))
      (error_again direction q again (search q) (MatchError.Quit byte offset) e)

pub half_unsplit_in_bounds : HalfUnsplitInBounds
half_unsplit_in_bounds t sound direction q h bytes e = by_flag (skips_splits t) e
  where
    by_flag : (skips : Bool) → (if skips then skip_splits (half_search t.machine t.settings direction) direction
        (split_limit q) q else half_search t.machine t.settings direction q) ≡ Ok (Some h)
        → IsInBounds q t.pattern_len h
    by_flag true e = skipping_in_bounds t sound direction (split_limit q) q h bytes e
    by_flag false e = half_in_bounds t sound direction q h bytes e

pub half_unsplit_quits : HalfUnsplitQuits
unfolding narrowed
half_unsplit_quits t sound direction q byte offset fit bytes e = by_flag (skips_splits t) refl e
  where
    by_flag : (skips : Bool) → skips_splits t ≡ skips
        → (if skips then skip_splits (half_search t.machine t.settings direction) direction
        (split_limit q) q else half_search t.machine t.settings direction q) ≡ Err (MatchError.Quit byte offset)
        → IsNamed q byte offset × QuittingAgain t direction q byte offset
    by_flag true is e =
        let quit = skipping_quits t sound direction (split_limit q) q byte offset fit bytes e in
        (quit.0, record { count = quit.1.0; once = λ off. absurd (cc); quitting = quit.1.1 })
    by_flag false is e =
        let quit = half_quits t sound direction q byte offset fit bytes e in
        (quit.0, record { count = 0; once = λ off. refl; quitting = quit.1 })

-- an item that is left was there before
kept_item : (q : Query) (h : HalfMatch) (items : List Item)
    → Contains (flat_map (item_unsplit q) items) (Item.Reported h) → Contains items (Item.Reported h)
kept_item q h [] c = c
kept_item q h (x ∷ xs) c =
    ⊎_elim
    (λ (d : Contains (item_unsplit q x) (Item.Reported h)).
    subst (Contains (x ∷ xs)) (one x d) (Contains-here x xs))
    (λ (d : Contains (flat_map (item_unsplit q) xs) (Item.Reported h)).
    Contains-there x xs (Item.Reported h) (kept_item q h xs d))
    (Contains-append_cases (item_unsplit q x) (flat_map (item_unsplit q) xs) (Item.Reported h) c)
  where
    one : (x : Item) → Contains (item_unsplit q x) (Item.Reported h) → x ≡ Item.Reported h
    one Item.Skipped c = only_one Item.Skipped (Item.Reported h) c
    one (Item.Reported m) c = grind (arith, common_steps, only_one, Contains-nil)

pub overlapping_unsplit_in_bounds : OverlappingUnsplitInBounds
overlapping_unsplit_in_bounds t sound direction q h bytes c = by_flag (skips_splits t) c
  where
    items : List Item
    items = (overlapping t.machine t.settings direction q).items

    by_flag : (skips : Bool) → Contains ((if skips then items_unsplit q (overlapping t.machine t.settings direction q)
        else overlapping t.machine t.settings direction q)).items (Item.Reported h) → IsInBounds q t.pattern_len h
    by_flag true c = overlapping_in_bounds t sound direction q h bytes (kept_item q h items c)
    by_flag false c = overlapping_in_bounds t sound direction q h bytes c

pub overlapping_unsplit_quits : OverlappingUnsplitQuits
overlapping_unsplit_quits t sound direction q byte offset fit bytes e =
    overlapping_quits t sound direction q byte offset fit bytes (by_flag (skips_splits t) e)
  where
    -- what is passed over doesn't change how it ends
    by_flag : (skips : Bool)
        → let told = overlapping t.machine t.settings direction q in
        let ending = (if skips then items_unsplit q told else told).ending in
        (ending ≡ Ending.Quits byte offset) ⊎ (ending ≡ Ending.Refused (MatchError.Quit byte offset))
        → (told.ending ≡ Ending.Quits byte offset) ⊎ (told.ending ≡ Ending.Refused (MatchError.Quit byte offset))
    by_flag true e = e
    by_flag false e = e
