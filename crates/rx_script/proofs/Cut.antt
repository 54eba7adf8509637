-- Cutting a text at a byte, and its first line.
use Rattle.rx_spec.proofs.Prelude.{common_steps, ◌≡◌, ℕ, suc, ◌+◌, ◌<◌, ◌≤◌, Bool, true, false, not, cond, eqb, ltb}
use Rattle.rx_spec.proofs.Prelude.{List, [], ◌∷◌, length, take, drop, Option, Some, None, refl, sym, ap, ◌∙◌, arith}
use Rattle.rx_spec.proofs.Prelude.{slice_split, position_or_len, nat_tests, false_from_ne_true, ltb-true, ltb-false}
use Rattle.rx_spec.proofs.Prelude.{lt-ltb, le-ltb, position_or_len_is, slice_split_none}
use Rattle.std.specs.List.{onto_first, position}
use Rattle.std.proofs.lemmas.Option.{cond_some}
use Rattle.std.proofs.lemmas.List.Sums.{fails_before_first}
use Rattle.std.proofs.lemmas.List.Splits.{slice_split_first}
use Rattle.memchr.specs.Find.{IsFirstByte, is_byte}
use Rattle.rx_script.specs.Pieces.{lines_of, cut, pieces_left, bytes_left}

chosen_none : {A : Type 0} (b : Bool) (x : A) → cond b (Some x) None ≡ None → b ≡ false
chosen_none true x e = absurd cc
chosen_none false x e = refl

-- a search for the first byte gives its position
pub first_is_position : (c : ℕ) (text : List ℕ) (first : Option ℕ) → IsFirstByte (is_byte c) text first
    → first ≡ position (λ b. eqb b c) text
first_is_position c text None nowhere =
    let p = λ (b : ℕ). eqb b c in
    let fails = λ (k : ℕ) (h : k < length text). false_from_ne_true _ (nowhere k (omega arith) h) in
    let end = position_or_len_is p text (length text) 0 (omega arith) fails (λ h. absurd (omega arith)) in
    rw (le-ltb (position_or_len p text) (length text) (omega arith)) refl
first_is_position c text (Some at) found =
    let p = λ (b : ℕ). eqb b c in
    let high = found.0.high in
    let fails = λ (k : ℕ) (h : k < at). false_from_ne_true _ (found.0.before k (omega arith) h) in
    let place = position_or_len_is p text at 0 (omega arith) fails (λ h. found.1) in
    rw (place, lt-ltb at (length text) high) refl

pub split_at : (c : ℕ) (text : List ℕ) (at : ℕ) → position (λ b. eqb b c) text ≡ Some at
    → slice_split (λ b. eqb b c) text ≡ take at text ∷ slice_split (λ b. eqb b c) (drop (at + 1) text)
split_at c text at e =
    let p = λ (b : ℕ). eqb b c in
    let h = cond_some (ltb (position_or_len p text) (length text)) (position_or_len p text) at e in
    let lt : position_or_len p text < length text = ltb-true _ _ h.0 in
    slice_split_first p text 0 lt ∙ ap (λ (n : ℕ). take n text ∷ slice_split p (drop (n + 1) text)) h.1

pub split_none
    : (c : ℕ) (text : List ℕ) → position (λ b. eqb b c) text ≡ None → slice_split (λ b. eqb b c) text ≡ text ∷ []
split_none c text e =
    let p = λ (b : ℕ). eqb b c in
    let place = position_or_len p text in
    let le : length text ≤ place = ltb-false _ _ (chosen_none (ltb place (length text)) place e) in
    slice_split_none p text (λ k d lt. fails_before_first p text k d (omega arith))

-- a cut by the place of the byte
abbrev parts_at : ℕ → List ℕ → List ℕ × Option (List ℕ)
parts_at place text = (take place text, cond (ltb place (length text)) (Some (drop (place + 1) text)) None)

cut_is : (c : ℕ) (text : List ℕ) → cut c text ≡ parts_at (position_or_len (λ b. eqb b c) text) text
cut_is c [] = refl
cut_is c (b ∷ bs) = on (eqb b c) (position_or_len (λ x. eqb x c) bs) (cut_is c bs) where
  shifted : (n m : ℕ) → n ≡ suc m → parts_at n (b ∷ bs) ≡ (b ∷ (parts_at m bs).0, (parts_at m bs).1)
  shifted n m e =
      let after : suc m + 1 ≡ suc (m + 1) = omega arith in
      let later : ltb (suc m) (suc (length bs)) ≡ ltb m (length bs) = grind (arith, nat_tests) in
      rw (e, after, later) refl

  on : (t : Bool) (n : ℕ) → cut c bs ≡ parts_at n bs
      → cond t ([], Some bs) (b ∷ (cut c bs).0, (cut c bs).1) ≡ parts_at (cond (not t) (1 + n) 0) (b ∷ bs)
  on true n e = ap (λ (t : Bool). ([], cond t (Some bs) None)) (sym (lt-ltb 0 (length (b ∷ bs)) (omega arith)))
  on false n e = ap (λ (p : List ℕ × Option (List ℕ)). (b ∷ p.0, p.1)) e ∙ sym (shifted (1 + n) n (omega arith))

pub cut_at : (c : ℕ) (text : List ℕ) (at : ℕ) → position (λ b. eqb b c) text ≡ Some at
    → cut c text ≡ (take at text, Some (drop (at + 1) text))
cut_at c text at e =
    let place = position_or_len (λ b. eqb b c) text in
    let h = cond_some (ltb place (length text)) place at e in
    cut_is c text ∙ rw h.0 (ap (λ (n : ℕ). (take n text, Some (drop (n + 1) text))) h.1)

pub cut_none : (c : ℕ) (text : List ℕ) → position (λ b. eqb b c) text ≡ None → cut c text ≡ (text, None)
cut_none c text e = grind (arith, common_steps, chosen_none, cut_is)

-- the pieces, but for a last one that is empty
abbrev pub alone : List ℕ → List (List ℕ)
alone [] = []
alone (b ∷ bs) = (b ∷ bs) ∷ []

abbrev pub trimmed : List (List ℕ) → List (List ℕ)
trimmed [] = []
trimmed (piece ∷ []) = alone piece
trimmed (piece ∷ (next ∷ pieces)) = piece ∷ trimmed (next ∷ pieces)

onto_trimmed : (b : ℕ) (pieces : List (List ℕ)) → 0 < length pieces
    → onto_first b (trimmed pieces) ≡ trimmed (onto_first b pieces)
onto_trimmed b [] h = absurd (omega arith)
onto_trimmed b ([] ∷ []) h = refl
onto_trimmed b ((c ∷ cs) ∷ []) h = refl
onto_trimmed b (piece ∷ (next ∷ pieces)) h = refl

pub some_piece : (c : ℕ) (text : List ℕ) → 0 < length (slice_split (λ b. eqb b c) text)
some_piece c [] = omega arith
some_piece c (b ∷ bs) = grind (arith, common_steps)

trimmed_more
    : (piece : List ℕ) (pieces : List (List ℕ)) → 0 < length pieces → trimmed (piece ∷ pieces) ≡ piece ∷ trimmed pieces
trimmed_more piece [] h = absurd (omega arith)
trimmed_more piece (next ∷ pieces) h = refl

lines_step : (t : Bool) (b : ℕ) (lines pieces : List (List ℕ)) → 0 < length pieces → lines ≡ trimmed pieces
    → cond t ([] ∷ lines) (onto_first b lines) ≡ trimmed (cond t ([] ∷ pieces) (onto_first b pieces))
lines_step true b lines pieces h e = ap (λ (ls : List (List ℕ)). [] ∷ ls) e ∙ sym (trimmed_more [] pieces h)
lines_step false b lines pieces h e = ap (onto_first b) e ∙ onto_trimmed b pieces h

pub lines_trimmed : (text : List ℕ) → lines_of text ≡ trimmed (slice_split (λ b. eqb b 10) text)
lines_trimmed [] = refl
lines_trimmed (b ∷ bs) =
    lines_step (eqb b 10) b (lines_of bs) (slice_split (λ b. eqb b 10) bs) (some_piece 10 bs) (lines_trimmed bs)

abbrev text_left : Option (List ℕ) → List ℕ
text_left None = []
text_left (Some text) = text

-- the first line, from the first cut
pub lines_next : (text line : List ℕ) (left : Option (List ℕ)) → 0 < length text
    → length line + 1 + bytes_left left ≡ length text + 1
    → slice_split (λ b. eqb b 10) text ≡ line ∷ pieces_left 10 left → lines_of text ≡ line ∷ lines_of (text_left left)
lines_next text (b ∷ bs) None some len e = lines_trimmed text ∙ ap trimmed e
lines_next text [] None some len e = absurd (omega arith)
lines_next text line (Some more) some len e =
    lines_trimmed text ∙ ap trimmed e ∙ trimmed_more line (slice_split (λ b. eqb b 10) more) (some_piece 10 more)
    ∙ ap (λ (ls : List (List ℕ)). line ∷ ls) (sym (lines_trimmed more))
