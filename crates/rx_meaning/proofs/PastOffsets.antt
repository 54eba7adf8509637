-- What is told from an offset on ends there or later.
use Rattle.std.proofs.lemmas.Grind.{common_steps}
use Rattle.rx_spec.proofs.Prelude.{ℕ, ◌+◌, ◌<◌, true, false, if◌then◌else◌, List, [], ◌∷◌, sym, subst, arith, Contains}
use Rattle.rx_spec.proofs.Prelude.{HalfMatch, Label, Machine, Item, Ending, OverlappingMatches, none_left}
use Rattle.rx_spec.proofs.Prelude.{pattern_items, at_item_label, overlapping_walk}
use Rattle.std.specs.List.{AllByRecursion as Every}
use Rattle.rx_spec.specs.declared.Direction.{Direction}
use Rattle.rx_lemmas.proofs.Every.{every-append}
use Rattle.rx_lemmas.proofs.Firsts.{Contains-nil}
use Rattle.rx_lemmas.proofs.Overlapping.{overlapping-nil, overlapping-cons}

abbrev pub EndsPast : ℕ → Item → Type 0
EndsPast o Item.Skipped = Unit {0}
EndsPast o (Item.Reported m) = o < m.offset

abbrev pub AllPast : ℕ → List Item → Type 0
AllPast o items = Every (EndsPast o) items

pub past_one : (o : ℕ) (items : List Item) (n : HalfMatch) → AllPast o items → Contains items (Item.Reported n)
    → o < n.offset
past_one o [] n all c = absurd (Contains-nil (Item.Reported n) c)
past_one o (item ∷ items) n all c = grind (arith, common_steps)

-- ---- walks

-- what is told from an offset on ends there or later
module _ {R : Type 0} (m : Machine R) where
  label_past : (label : Label) (unit at : ℕ) (o : ℕ) (later : OverlappingMatches) → o < at → AllPast o later.items
      → AllPast o (at_item_label label Direction.Forward unit at later).items
  label_past Label.Quits unit at o later h past = tt
  label_past Label.Plain unit at o later h past = past
  label_past (Label.Matches ks) unit at o later h past =
      every-append (EndsPast o) (pattern_items ks at) later.items (patterns_past ks) past
    where
      patterns_past : (ks : List ℕ) → AllPast o (pattern_items ks at)
      patterns_past [] = tt
      patterns_past (k ∷ ks) = (h, patterns_past ks)

  pub walk_past : (row : R) (at o : ℕ) (units : List ℕ) → o < at
      → AllPast o (overlapping_walk m Direction.Forward row at units).items
  walk_past row at o [] h =
      subst (λ (x : OverlappingMatches). AllPast o x.items) (sym (overlapping-nil m Direction.Forward row at)) tt
  walk_past row at o (unit ∷ units) h =
      let next = m.next row unit in
      let later = walk_past next (at + 1) o units (omega arith) in
      subst (λ (x : OverlappingMatches). AllPast o x.items)
      (sym (overlapping-cons m Direction.Forward row unit at units))
      (label_past (m.label next) unit at o _ h
      (elim (m.is_dead next)
      as (λ d. AllPast o (if d then none_left Ending.Ended
      else overlapping_walk m Direction.Forward next (at + 1) units).items) [
        | true ↦ tt
        | false ↦ later
      ]))
