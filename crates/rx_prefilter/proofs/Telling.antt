-- Walks that tell one match at a row.
use Rattle.rx_spec.proofs.Prelude.{common_steps, ◌≡◌, ℕ, ◌<◌, Bool, true, false, Ok, None, Some, List, [], ◌∷◌, length}
use Rattle.rx_spec.proofs.Prelude.{if◌then◌else◌, ap, refl, sym, ◌∙◌, ◌==◌, arith, length-append, slice_index}
use Rattle.rx_spec.proofs.Prelude.{false_from_ne_true, eqb-true, AreBytes, unit_of, HalfAnswer, at_label, last_match}
use Rattle.rx_spec.proofs.Prelude.{next_offset, span_bytes, units_of, walk, after, IsWord, Label, HalfMatch, Query}
use Rattle.rx_spec.proofs.Prelude.{Table, is_match}
use Rattle.rx_spec.specs.declared.Direction.{Direction}
use Rattle.rx_lemmas.proofs.ReadUnits.{units_word}
use Rattle.rx_lemmas.proofs.Walking.{walk-cons, walk-nil}
use Rattle.rx_lemmas.proofs.Words.{IsWord-head, IsWord-tail}
use Rattle.rx_search.specs.Labels.{patterns_of}
use Rattle.rx_search.specs.Walks.{rest, units_left}
use Rattle.rx_search.proofs.Standing.{Standing, match_label}
use Rattle.rx_prefilter.specs.OnlyLiterals.{Tells}
use Rattle.rx_search.proofs.Walks.{bytes_on}

-- the first pattern of a match row, and the others
pub record FirstTold (t : Table) (row : ℕ) : Type 0 where
  pub others : List ℕ
  pub label : t.machine.label row ≡ Label.Matches (slice_index (patterns_of t row) 0 ∷ others)
  pub some : 0 < length (patterns_of t row)

pub first_told : {t : Table} {row : ℕ} → Standing t row → is_match t row ≡ true → FirstTold t row
first_told {t} {row} s is = by_patterns (patterns_of t row) refl
  where
    by_patterns : (patterns : List ℕ) → patterns_of t row ≡ patterns → FirstTold t row
    by_patterns [] e = grind (arith, common_steps, match_label)
    by_patterns (k ∷ ks) e = record {
      others = ks;
      label =
          match_label (t.machine.label row) is
          ∙ ap Label.Matches (e ∙ ap (λ (l : List ℕ). slice_index l 0 ∷ ks) (sym e));
      some = let n = ap length e in omega arith;
    }

-- an answer that stays the same
stays : (earliest dead : Bool) {now later : HalfAnswer} → later ≡ now
    → (if earliest then now else (if dead then now else later)) ≡ now
stays true dead same = refl
stays false true same = refl
stays false false same = same

module _ {t : Table} {row pattern : ℕ} (s : Standing t row) (tells : Tells t row pattern) (direction : Direction)
    (earliest : Bool) where
  -- what a unit makes of a walk, by where it leads and what is told there
  abbrev turn : (unit offset : ℕ) → (last : HalfMatch) → List ℕ → ℕ → Label → Bool → HalfAnswer
  turn unit offset last units next label dead =
      let met = last_match label offset (Some last) in
      at_label label direction earliest unit offset (Ok met)
      (if dead then Ok met else walk t.machine direction earliest next (next_offset direction offset) met units)

  -- behind the row the match stays
  behind : (offset : ℕ) (last : HalfMatch) (units : List ℕ) → IsWord units
      → walk t.machine direction earliest tells.told offset (Some last) units ≡ Ok (Some last)
  behind offset last [] word = walk-nil t.machine direction earliest tells.told offset (Some last)
  behind offset last (unit ∷ units) word = grind (arith, common_steps, walk-cons, IsWord-head)

  abbrev met : ℕ → HalfMatch
  met offset = record { pattern = pattern; offset = offset }

  told : (offset : ℕ) (units : List ℕ) → IsWord units → 0 < length units
      → walk t.machine direction earliest row offset None units ≡ Ok (Some (met offset))
  told offset [] word some = absurd (omega arith)
  told offset (unit ∷ units) word some =
      let first = λ (r : ℕ) (label : Label).
      let met = last_match label offset None in
      at_label label direction earliest unit offset (Ok met)
      (if t.machine.is_dead r
      then Ok met
      else walk t.machine direction earliest r (next_offset direction offset) met units) in
      walk-cons t.machine direction earliest row unit offset None units
      ∙ ap (λ (r : ℕ). first r (t.machine.label r)) (tells.leads unit (IsWord-head unit units word))
      ∙ ap (first tells.told) tells.label
      ∙ stays earliest (t.machine.is_dead tells.told)
      (behind (next_offset direction offset) (met offset) units (IsWord-tail unit units word))

-- the row isn't dead
pub tells_alive : {t : Table} {row pattern : ℕ} → Standing t row → Tells t row pattern → t.machine.is_dead row ≡ false
tells_alive {t} {row} {pattern} s tells =
    s.sound.is_table.dead_only row s.below
    ∙ false_from_ne_true (row == 0) (λ dead. cc (plain (eqb-true row 0 dead)))
  where
    plain : row ≡ 0 → Label.Matches (pattern ∷ tells.others) ≡ Label.Plain
    plain none =
        let stays = s.sound.is_table.dead_stays 0 (omega arith) in
        sym tells.label
        ∙ ap t.machine.label
        (sym (tells.leads 0 (omega arith)) ∙ ap (λ (r : ℕ). t.machine.next r 0) none ∙ stays)
        ∙ s.sound.is_table.dead_label

-- a unit is always left to be read
some_left : (direction : Direction) (q : Query) → 0 < length (units_of direction q)
some_left Direction.Forward q = omega (arith, length-append (span_bytes q) (unit_of (after q.haystack q.end) ∷ []))
some_left Direction.Reverse q = grind (arith, common_steps)

-- over what is left of a span
pub tells_there : {t : Table} {row pattern : ℕ} → Standing t row → Tells t row pattern → (direction : Direction)
    (q : Query) (offset : ℕ) → AreBytes q.haystack
    → walk t.machine direction q.earliest row offset None (units_left direction q offset)
    ≡ Ok (Some (record { pattern = pattern; offset = offset }))
tells_there s tells direction q offset bytes =
    told s tells direction q.earliest offset (units_left direction q offset)
    (units_word direction (rest direction q offset) (bytes_on direction q offset bytes))
    (some_left direction (rest direction q offset))
