-- Rows of two machines from which every word leads to equal labels: walks from them end alike.
use Rattle.rx_spec.proofs.Prelude.{arith, ◌≡◌, ℕ, ◌<◌, Bool, Option, Ok, List, [], ◌∷◌, ap, sym, ◌∙◌, common_steps}
use Rattle.rx_spec.proofs.Prelude.{HalfMatch, Machine, IsWord, label_after, last_match, at_label, next_offset, walk}
use Rattle.rx_spec.proofs.Prelude.{at_item_label, overlapping_walk}
use Rattle.rx_spec.specs.declared.Direction.{Direction}
use Rattle.rx_lemmas.proofs.Overlapping.{overlapping-nil, overlapping-more}
use Rattle.rx_lemmas.proofs.SilentRows.{IsSilent, EndsWell}
use Rattle.rx_lemmas.proofs.Walking.{walk-nil, walk-more}
use Rattle.rx_lemmas.proofs.Words.{IsWord-nil, IsWord-cons, IsWord-head, IsWord-tail, run-nil, run-cons}

-- The rows are among those of each machine that end well.
pub record Alike {R S : Type 0} (m : Machine R) (n : Machine S) (In : R → Type 0) (On : S → Type 0) (row : R) (node : S)
    : Type 0 where
  pub inside : In row
  pub within : On node
  pub labels : (word : List ℕ) → IsWord word → label_after m row word ≡ label_after n node word

-- two silent rows are
pub silent_alike : {R S : Type 0} {m : Machine R} {n : Machine S} {In : R → Type 0} {On : S → Type 0}
    {row : R} {node : S} → In row → On node → IsSilent m row → IsSilent n node → Alike m n In On row node
silent_alike i o s r = record { inside = i; within = o; labels = λ word w. s.plain word w ∙ sym (r.plain word w) }

module _ {R S : Type 0} {m : Machine R} {n : Machine S} {In : R → Type 0} {On : S → Type 0}
    (left : EndsWell m In) (right : EndsWell n On) where
  alike_label : (row : R) (node : S) → Alike m n In On row node → m.label row ≡ n.label node
  alike_label row node a =
      ap m.label (sym (run-nil m.next row)) ∙ a.labels [] IsWord-nil ∙ ap n.label (run-nil n.next node)

  alike_next : (row : R) (node : S) (unit : ℕ) → Alike m n In On row node → unit < 257
      → Alike m n In On (m.next row unit) (n.next node unit)
  alike_next row node unit a h = record {
    inside = left.closed row unit a.inside h;
    within = right.closed node unit a.within h;
    labels = λ word w.
        ap m.label (sym (run-cons m.next row unit word)) ∙ a.labels (unit ∷ word) (IsWord-cons unit word h w)
        ∙ ap n.label (run-cons n.next node unit word);
  }

  pub walk_alike : (direction : Direction) (earliest : Bool) {row : R} {node : S} → Alike m n In On row node
      → (units : List ℕ) → IsWord units → (offset : ℕ) (last : Option HalfMatch)
      → walk m direction earliest row offset last units ≡ walk n direction earliest node offset last units
  walk_alike direction earliest {row} {node} a [] w offset last = grind (arith, common_steps, walk-nil)
  walk_alike direction earliest {row} {node} a (unit ∷ units) w offset last =
      let x = m.next row unit in
      let y = n.next node unit in
      let next = alike_next row node unit a (IsWord-head unit units w) in
      let rest = IsWord-tail unit units w in
      let here = next_offset direction offset in
      let met = last_match (n.label y) offset last in
      walk-more m direction earliest row unit offset last units rest (left.silent x next.inside)
      ∙ ap (λ l. at_label l direction earliest unit offset (Ok (last_match l offset last))
      (walk m direction earliest x here (last_match l offset last) units)) (alike_label x y next)
      ∙ ap (at_label (n.label y) direction earliest unit offset (Ok met))
      (walk_alike direction earliest {row = x} {node = y} next units rest here met)
      ∙ sym (walk-more n direction earliest node unit offset last units rest (right.silent y next.within))

  pub overlapping_alike : (direction : Direction) {row : R} {node : S} → Alike m n In On row node
      → (units : List ℕ) → IsWord units → (offset : ℕ)
      → overlapping_walk m direction row offset units ≡ overlapping_walk n direction node offset units
  overlapping_alike direction {row} {node} a [] w offset = grind (arith, common_steps, overlapping-nil)
  overlapping_alike direction {row} {node} a (unit ∷ units) w offset =
      let x = m.next row unit in
      let y = n.next node unit in
      let next = alike_next row node unit a (IsWord-head unit units w) in
      let rest = IsWord-tail unit units w in
      let here = next_offset direction offset in
      overlapping-more m direction row unit offset units rest (left.silent x next.inside)
      ∙ ap (λ l. at_item_label l direction unit offset (overlapping_walk m direction x here units))
      (alike_label x y next)
      ∙ ap (at_item_label (n.label y) direction unit offset)
      (overlapping_alike direction {row = x} {node = y} next units rest here)
      ∙ sym (overlapping-more n direction node unit offset units rest (right.silent y next.within))
