-- What a half search tells is the first pattern of the last row that an overlapping search tells of.
use Rattle.rx_spec.proofs.Prelude.{rules, ◌≡◌, ℕ, ◌+◌, ◌-◌, ◌<◌, ◌≤◌, Bool, true, false, if◌then◌else◌, Option, Some}
use Rattle.rx_spec.proofs.Prelude.{None, List, [], ◌∷◌, length, refl, ap, ◌∙◌, arith, common_steps, Ok, Err, Contains}
use Rattle.rx_spec.proofs.Prelude.{eq-eqb, Query, HalfMatch, MatchError, Label, label_of, Machine, Settings, start_row}
use Rattle.rx_spec.proofs.Prelude.{start_context, Node, node_label, power, build_settings, HalfAnswer, units_of, beside}
use Rattle.rx_spec.proofs.Prelude.{first_offset, next_offset, last_match, at_label, walk, half_search, Item, Ending}
use Rattle.rx_spec.proofs.Prelude.{OverlappingMatches, none_left, pattern_items, with_items, at_item_label}
use Rattle.rx_spec.proofs.Prelude.{overlapping_walk, overlapping}
use Rattle.std.specs.Prelude.{fold}
use Rattle.std.specs.List.{AllByRecursion as Every}
use Rattle.rx_laws.specs.SearchesLaws.{keep_first, HalfOfOverlapping, HalfOfOverlappingInBuild}
use Rattle.rx_spec.specs.declared.Direction.{Direction}
use Rattle.rx_lemmas.proofs.Firsts.{Contains-here, Contains-there}
use Rattle.rx_lemmas.proofs.ReadUnits.{units_word}

-- the answer, where a half match is kept already
abbrev answer_by : Option HalfMatch → Ending → List Item → HalfAnswer
answer_by kept Ending.Ended items = Ok (fold keep_first kept items)
answer_by kept (Ending.Quits byte offset) items = Err (MatchError.Quit byte offset)
answer_by kept (Ending.Refused error) items = Err error

abbrev answer_from : Option HalfMatch → OverlappingMatches → HalfAnswer
answer_from kept told = answer_by kept told.ending told.items

-- What is kept was told at an offset that the units left don't come back to.
abbrev PassedBy : Direction → ℕ → Option HalfMatch → List ℕ → Type 0
PassedBy Direction.Forward offset kept units = (h : HalfMatch) → kept ≡ Some h → h.offset < offset
PassedBy Direction.Reverse offset kept units =
    (length units ≤ offset + 1) × ((h : HalfMatch) → kept ≡ Some h → 0 < length units → offset < h.offset)

record IsLeft (direction : Direction) (offset : ℕ) (kept : Option HalfMatch) (units : List ℕ) : Type 0 where
  passed : PassedBy direction offset kept units

left_by_match : {direction : Direction} {offset unit : ℕ} {kept : Option HalfMatch} {units : List ℕ} (k : ℕ)
    → IsLeft direction offset kept (unit ∷ units)
    → IsLeft direction (next_offset direction offset) (Some (record { pattern = k; offset = offset })) units
left_by_match {direction} {offset} {unit} {kept} {units} k left = grind (arith, common_steps)

-- the row's other patterns don't
stays_first : (k offset : ℕ) (ks : List ℕ)
    → fold keep_first (Some (record { pattern = k; offset = offset })) (pattern_items ks offset)
    ≡ Some (record { pattern = k; offset = offset })
stays_first k offset [] = refl
stays_first k offset (j ∷ ks) =
    ap (λ (same : Bool). fold keep_first (if same then Some (record { pattern = k; offset = offset })
    else Some (record { pattern = j; offset = offset })) (pattern_items ks offset)) (eq-eqb offset offset refl)
    ∙ stays_first k offset ks

answer_with : (kept : Option HalfMatch) (items : List Item) (later : OverlappingMatches)
    → answer_from kept (with_items items later) ≡ answer_from (fold keep_first kept items) later
answer_with kept items later = grind (arith, common_steps)

-- A machine whose match rows have patterns, seen from rows that units lead to.
record HasLists {R : Type 0} (m : Machine R) (In : R → Type 0) (Fits : ℕ → Type 0) : Type 0 where
  stays : (row : R) (unit : ℕ) → In row → Fits unit → In (m.next row unit)
  some : (row : R) → In row → m.label row ≡ Label.Matches [] → ⊥

module _ {R : Type 0} {m : Machine R} {In : R → Type 0} {Fits : ℕ → Type 0} (has : HasLists m In Fits)
    (direction : Direction) where
  walk_told : (row : R) {offset : ℕ} {kept : Option HalfMatch} {units : List ℕ}
      → In row → Every Fits units → IsLeft direction offset kept units
      → walk m direction false row offset kept units
      ≡ answer_from kept (overlapping_walk m direction row offset units)
  unfolding walk overlapping_walk
  walk_told row {units = []} within fits left = refl
  walk_told row {offset} {kept} {units = unit ∷ units} within fits left =
      let below = has.stays row unit within fits.0 in
      by_label (m.label (m.next row unit)) refl (λ last h. walk_told (m.next row unit) {units = units} below fits.1 h)
    where
      later : OverlappingMatches
      later = overlapping_walk m direction (m.next row unit) (next_offset direction offset) units

      on : Option HalfMatch → HalfAnswer
      on last = walk m direction false (m.next row unit) (next_offset direction offset) last units

      rest : Bool → OverlappingMatches
      rest dead = if dead then none_left Ending.Ended else later

      by_dead : (last : Option HalfMatch) (dead : Bool) → on last ≡ answer_from last later
          → (if dead then Ok last else on last) ≡ answer_from last (rest dead)
      by_dead last true h = refl
      by_dead last false h = h

      by_label : (label : Label) → m.label (m.next row unit) ≡ label
          → ((last : Option HalfMatch) → IsLeft direction (next_offset direction offset) last units
          → on last ≡ answer_from last later)
          → at_label label direction false unit offset (Ok (last_match label offset kept))
          (if m.is_dead (m.next row unit) then Ok (last_match label offset kept) else on (last_match label offset kept))
          ≡ answer_from kept (at_item_label label direction unit offset (rest (m.is_dead (m.next row unit))))
      by_label Label.Quits e others = refl
      by_label Label.Plain e others = grind (arith, common_steps)
      by_label (Label.Matches []) e others = grind (arith, common_steps)
      by_label (Label.Matches (k ∷ ks)) e others =
          grind (arith, common_steps, by_dead, left_by_match, answer_with, stays_first)

-- all that is read has no more units than offsets
span_left : (direction : Direction) (q : Query)
    → IsLeft direction (first_offset direction q) None (units_of direction q)
span_left direction q = grind (arith, common_steps)

half_told : {R : Type 0} {m : Machine R} {In : R → Type 0} {Fits : ℕ → Type 0} → HasLists m In Fits → (s : Settings)
    (direction : Direction) (q : Query) → q.earliest ≡ false → In (start_row m s (beside direction q) q.mode)
    → Every Fits (units_of direction q)
    → half_search m s direction q ≡ answer_from None (overlapping m s direction q)
half_told {R} {m} {In} {Fits} has s direction q late within fits = search (rules, walk_told, span_left)

every_unit : (P : ℕ → Type 0) (units : List ℕ) → ((unit : ℕ) → Contains units unit → P unit) → Every P units
every_unit P [] f = tt
every_unit P (unit ∷ units) f =
    (f unit (Contains-here unit units), every_unit P units (λ v c. f v (Contains-there unit units v c)))

-- in a table
pub half_of_overlapping : HalfOfOverlapping
half_of_overlapping t direction q is bytes late =
    half_told has t.settings direction q late (is.entries q.mode (start_context t.settings (beside direction q)))
    (every_unit (λ unit. unit < 257) (units_of direction q) (units_word direction q bytes))
  where
    has : HasLists t.machine (λ row. row < t.size) (λ unit. unit < 257)
    has = grind (arith, common_steps)

-- and in what a build makes
pub half_of_overlapping_in_build : HalfOfOverlappingInBuild
half_of_overlapping_in_build b direction q late =
    half_told has (build_settings b) direction q late tt
    (every_unit (λ unit. Unit {0}) (units_of direction q) (λ unit c. tt))
  where
    no_empty : (ks : List ℕ) → label_of ks ≡ Label.Matches [] → ⊥
    no_empty [] e = cc
    no_empty (k ∷ ks) e = cc

    has : HasLists (power b) (λ node. Unit {0}) (λ unit. Unit {0})
    has = record { stays = λ node unit h k. tt; some = λ node h e. none node e }
      where
        none : (node : Node) → node_label node ≡ Label.Matches [] → ⊥
        none Node.Quit e = cc
        none (Node.Running s) e = no_empty s.label e
