-- Matches that split a character are passed over by an overlapping search, call by call.
use Rattle.rx_spec.proofs.Prelude.{common_steps, ◌≡◌, ◌<◌, true, false, Option, Some, None, Result, Ok, List, [], ◌∷◌}
use Rattle.rx_spec.proofs.Prelude.{◌++◌, length, ap, sym, arith, Query, HalfMatch, MatchError, is_anchored, Item}
use Rattle.rx_spec.proofs.Prelude.{Ending, OverlappingMatches, is_split, item_unsplit}
use Rattle.rx_spec.specs.Splits.{items_unsplit}
use Rattle.rx_search.specs.OverlappingCalls.{item_call, next_call}

-- a call of the search that doesn't pass over splits
pub record IsCall (before : OverlappingMatches) (result : Result (Unit {0}) MatchError) (told : Option HalfMatch)
    (after : OverlappingMatches) : Type 0 where
  pub is : record { result = result; told = told; left = after } ≡ next_call before

pub called : {before : OverlappingMatches} {result : Result (Unit {0}) MatchError} {told : Option HalfMatch}
    {after : OverlappingMatches} → record { result = result; told = told; left = after } ≡ next_call before
    → IsCall before result told after
called e = record { is = e }

-- the same of one that does
abbrev pub UnsplitCall : Query → OverlappingMatches → Result (Unit {0}) MatchError
    → Option HalfMatch → OverlappingMatches
    → Type 0
UnsplitCall q before result told after =
    record { result = result; told = told; left = items_unsplit q after } ≡ next_call (items_unsplit q before)

-- a match that is told was the first item
pub first_item : {result : Result (Unit {0}) MatchError} {told : Option HalfMatch} {after : OverlappingMatches}
    (h : HalfMatch) (items : List Item) (ending : Ending) → told ≡ Some h
    → record { result = result; told = told; left = after } ≡ item_call items ending
    → (rest : List Item) × (items ≡ Item.Reported h ∷ rest) × (result ≡ Ok tt)
    × (after ≡ record { items = rest; ending = ending })
first_item h [] Ending.Ended t e = grind (arith, common_steps)
first_item h (Item.Skipped ∷ items) ending t e = grind (arith, common_steps)
first_item h (Item.Reported k ∷ items) ending t e = grind (arith, common_steps)
first_item h [] _ t e = grind (arith, common_steps)

module _ (q : Query) {before : OverlappingMatches} {result : Result (Unit {0}) MatchError} {told : Option HalfMatch}
    {after : OverlappingMatches} (call : IsCall before result told after) where
  module _ (h : HalfMatch) (t : told ≡ Some h) where
    parts : (rest : List Item) × (before.items ≡ Item.Reported h ∷ rest) × (result ≡ Ok tt)
        × (after ≡ record { items = rest; ending = before.ending })
    parts = first_item h before.items before.ending t call.is

    -- what is made of the match, in front of what is made of the others
    front : items_unsplit q before
        ≡ record { items = item_unsplit q (Item.Reported h) ++ (items_unsplit q after).items; ending = before.ending }
    front = grind (arith, common_steps, parts)

    ending_same : before.ending ≡ after.ending
    ending_same = sym (ap (λ (m : OverlappingMatches). m.ending) parts.3)

    abbrev fronted : List Item → OverlappingMatches
    fronted items = record { items = items ++ (items_unsplit q after).items; ending = before.ending }

    pub unsplit_whole : is_split q.haystack h.offset ≡ false → UnsplitCall q before result told after
    unsplit_whole whole = grind (arith, common_steps, parts, ending_same, front)

    pub unsplit_silent : is_split q.haystack h.offset ≡ true → is_anchored q.mode ≡ true
        → UnsplitCall q before result None after
    unsplit_silent split anchored = grind (arith, common_steps, parts, ending_same, front)

    pub unsplit_again : is_split q.haystack h.offset ≡ true → is_anchored q.mode ≡ false
        → next_call (items_unsplit q before) ≡ next_call (items_unsplit q after)
    unsplit_again split goes = grind (arith, common_steps, front, ending_same)

    pub fewer_left : length after.items < length before.items
    fewer_left = grind (arith, common_steps, parts)
