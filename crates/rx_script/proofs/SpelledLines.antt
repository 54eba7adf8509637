-- Lines and words: what is read is spelled so, and what is spelled so is read.
use Rattle.rx_spec.proofs.Prelude.{common_steps, ◌≡◌, ◌⊎◌, inl, inr, ℕ, ◌<◌, Bool, true, false, not, ◌&&◌, cond, eqb}
use Rattle.rx_spec.proofs.Prelude.{leb, List, [], ◌∷◌, ◌++◌, length, map, refl, sym, ap, subst, ◌∙◌, append_assoc}
use Rattle.rx_spec.proofs.Prelude.{append-nil, arith, AllByRecursion, slice_split, eqb-true, leb-true, le-leb, ne_eqb}
use Rattle.rx_spec.proofs.Prelude.{and_parts, not-true, All-from_recursion, slice_split_none}
use Rattle.std.specs.List.{join_with_byte, onto_first}
use Rattle.std.proofs.lemmas.Bool.{both_ways}
use Rattle.std.proofs.lemmas.List.Splits.{slice_split_at, join_with_byte-slice_split}
use Rattle.rx_script.specs.Pieces.{lines_of, words_of, is_spaced}
use Rattle.rx_script.specs.Grammar.{IsVisible, IsWord, IsLine, line_text, lines_text, SpellsLines}
use Rattle.rx_script.proofs.Cut.{some_piece, trimmed, lines_trimmed}

-- ---- a line that is words with one space between two

-- what a line's words are, where a gap stands before it or none
abbrev AreParts : Bool → List (List ℕ) → Type 0
AreParts gap [] = ⊥
AreParts gap (w ∷ ws) = AllByRecursion IsVisible w × (gap ≡ true → 0 < length w) × AllByRecursion IsWord ws

parts_onto : (b : ℕ) (gap : Bool) (parts : List (List ℕ)) → IsVisible b → AreParts false parts
    → AreParts gap (onto_first b parts)
parts_onto b gap [] v h = absurd h
parts_onto b gap (w ∷ ws) v h = ((v, h.0), (λ g. omega arith), h.2)

parts_words : (parts : List (List ℕ)) → AreParts true parts → AllByRecursion IsWord parts
parts_words [] h = absurd h
parts_words (w ∷ ws) h = ((h.1 refl, h.0), h.2)

parts_at : (gap t : Bool) (b : ℕ) (bs : List ℕ) → eqb b 32 ≡ t
    → cond t (not gap && is_spaced true bs) (leb 33 b && leb b 126 && is_spaced false bs) ≡ true
    → ((g : Bool) → is_spaced g bs ≡ true → AreParts g (words_of bs))
    → AreParts gap (cond t ([] ∷ words_of bs) (onto_first b (words_of bs)))
parts_at gap true b bs e h again =
    let g = and_parts (not gap) (is_spaced true bs) h in
    (tt, (λ shut. absurd (both_ways gap (not-true gap g.0) shut)), parts_words (words_of bs) (again true g.1))
parts_at gap false b bs e h again =
    let g = and_parts (leb 33 b && leb b 126) (is_spaced false bs) h in
    let v = and_parts (leb 33 b) (leb b 126) g.0 in
    parts_onto b gap (words_of bs) (leb-true _ _ v.0, leb-true _ _ v.1) (again false g.1)

spaced_parts : (gap : Bool) (line : List ℕ) → is_spaced gap line ≡ true → AreParts gap (words_of line)
spaced_parts gap [] h = (tt, (λ g. absurd (both_ways gap (not-true gap h) g)), tt)
spaced_parts gap (b ∷ bs) h = parts_at gap (eqb b 32) b bs refl h (λ g. spaced_parts g bs)

pub spaced_line
    : (line : List ℕ) → is_spaced true line ≡ true → IsLine (words_of line) × (line ≡ line_text (words_of line))
spaced_line line h =
    let words = parts_words (words_of line) (spaced_parts true line h) in
    ((some_piece 32 line, words), sym (join_with_byte-slice_split 32 line))

-- ---- and the other way

visible_steps : (word rest : List ℕ) (gap : Bool) → AllByRecursion IsVisible word → 0 < length word
    → is_spaced gap (word ++ rest) ≡ is_spaced false rest
visible_steps [] rest gap v some = absurd (omega arith)
visible_steps (b ∷ []) rest gap v some =
    let ne : eqb b 32 ≡ false = ne_eqb b 32 (λ e. omega arith) in
    rw (ne, le-leb 33 b v.0.0, le-leb b 126 v.0.1) refl
visible_steps (b ∷ (c ∷ cs)) rest gap v some =
    let ne : eqb b 32 ≡ false = ne_eqb b 32 (λ e. omega arith) in
    rw (ne, le-leb 33 b v.0.0, le-leb b 126 v.0.1) (visible_steps (c ∷ cs) rest false v.1 (omega arith))

pub line_spaced : (words : List (List ℕ)) (gap : Bool) → AllByRecursion IsWord words → 0 < length words
    → is_spaced gap (line_text words) ≡ true
line_spaced [] gap each some = absurd (omega arith)
line_spaced (w ∷ []) gap each some = ap (is_spaced gap) (sym (append-nil w)) ∙ visible_steps w [] gap each.0.1 each.0.0
line_spaced (w ∷ (v ∷ ws)) gap each some =
    visible_steps w (32 ∷ line_text (v ∷ ws)) gap each.0.1 each.0.0 ∙ line_spaced (v ∷ ws) true each.1 (omega arith)

not_byte : (c : ℕ) (word : List ℕ) → c < 33 → AllByRecursion IsVisible word → AllByRecursion (λ x. eqb x c ≡ false) word
not_byte c [] lt v = tt
not_byte c (b ∷ bs) lt v = (ne_eqb b c (λ e. omega arith), not_byte c bs lt v.1)

pub line_words
    : (words : List (List ℕ)) → AllByRecursion IsWord words → 0 < length words → words_of (line_text words) ≡ words
line_words [] each some = absurd (omega arith)
line_words (w ∷ []) each some =
    slice_split_none (λ b. eqb b 32) w (All-from_recursion _ w (not_byte 32 w (omega arith) each.0.1))
line_words (w ∷ (v ∷ ws)) each some =
    let none = All-from_recursion _ w (not_byte 32 w (omega arith) each.0.1) in
    slice_split_at (λ b. eqb b 32) w 32 (line_text (v ∷ ws)) none refl
    ∙ ap (λ (xs : List (List ℕ)). w ∷ xs) (line_words (v ∷ ws) each.1 (omega arith))

-- ---- lines

-- a text is its lines, maybe with one byte more
abbrev pub IsJoined : List ℕ → List (List ℕ) → Type 0
IsJoined text lines =
    (text ≡ join_with_byte 10 lines) ⊎ ((0 < length lines) × (text ≡ join_with_byte 10 lines ++ 10 ∷ []))

joined_newline : (bs : List ℕ) (lines : List (List ℕ)) → IsJoined bs lines → IsJoined (10 ∷ bs) ([] ∷ lines)
joined_newline bs [] (inl e) = inr (omega arith, ap (λ (x : List ℕ). 10 ∷ x) e)
joined_newline bs [] (inr e) = absurd (omega arith)
joined_newline bs (l ∷ ls) (inl e) = inl (ap (λ (x : List ℕ). 10 ∷ x) e)
joined_newline bs (l ∷ ls) (inr e) = inr (omega arith, ap (λ (x : List ℕ). 10 ∷ x) e.1)

joined_onto : (b : ℕ) (bs : List ℕ) (lines : List (List ℕ)) → IsJoined bs lines → IsJoined (b ∷ bs) (onto_first b lines)
joined_onto b bs [] (inl e) = inl (ap (λ (x : List ℕ). b ∷ x) e)
joined_onto b bs [] (inr e) = absurd (omega arith)
joined_onto b bs (l ∷ []) (inl e) = inl (ap (λ (x : List ℕ). b ∷ x) e)
joined_onto b bs (l ∷ []) (inr e) = inr (omega arith, ap (λ (x : List ℕ). b ∷ x) e.1)
joined_onto b bs (l ∷ (m ∷ ls)) (inl e) = inl (ap (λ (x : List ℕ). b ∷ x) e)
joined_onto b bs (l ∷ (m ∷ ls)) (inr e) = inr (omega arith, ap (λ (x : List ℕ). b ∷ x) e.1)

joined_at : (t : Bool) (b : ℕ) (bs : List ℕ) (lines : List (List ℕ)) → eqb b 10 ≡ t → IsJoined bs lines
    → IsJoined (b ∷ bs) (cond t ([] ∷ lines) (onto_first b lines))
joined_at true b bs lines e h =
    subst (λ (x : ℕ). IsJoined (x ∷ bs) ([] ∷ lines)) (sym (eqb-true b 10 e)) (joined_newline bs lines h)
joined_at false b bs lines e h = joined_onto b bs lines h

pub lines_joined : (text : List ℕ) → IsJoined text (lines_of text)
lines_joined [] = inl refl
lines_joined (b ∷ bs) = joined_at (eqb b 10) b bs (lines_of bs) refl (lines_joined bs)

-- a line without the byte 10 is read as one
first_line : (line rest : List ℕ) → AllByRecursion (λ x. eqb x 10 ≡ false) line
    → lines_of (line ++ 10 ∷ rest) ≡ line ∷ lines_of rest
first_line line rest none =
    let pieces = slice_split (λ b. eqb b 10) rest in
    lines_trimmed (line ++ 10 ∷ rest)
    ∙ ap trimmed (slice_split_at (λ b. eqb b 10) line 10 rest (All-from_recursion _ line none) refl)
    ∙ more pieces (some_piece 10 rest) ∙ ap (λ (xs : List (List ℕ)). line ∷ xs) (sym (lines_trimmed rest)) where
      more : (pieces : List (List ℕ)) → 0 < length pieces → trimmed (line ∷ pieces) ≡ line ∷ trimmed pieces
      more [] h = absurd (omega arith)
      more (p ∷ ps) h = refl

last_line : (line : List ℕ) → AllByRecursion (λ x. eqb x 10 ≡ false) line → 0 < length line → lines_of line ≡ line ∷ []
last_line [] none some = absurd (omega arith)
last_line (b ∷ bs) none some = grind (arith, common_steps, lines_trimmed, slice_split_none)

pub each-append : {A : Type 0} (P : A → Type 0) (xs ys : List A) → AllByRecursion P xs → AllByRecursion P ys
    → AllByRecursion P (xs ++ ys)
each-append P [] ys p q = q
each-append P (x ∷ xs) ys p q = (p.0, each-append P xs ys p.1 q)

without_ten
    : (words : List (List ℕ)) → AllByRecursion IsWord words → AllByRecursion (λ x. eqb x 10 ≡ false) (line_text words)
without_ten [] each = tt
without_ten (w ∷ []) each = not_byte 10 w (omega arith) each.0.1
without_ten (w ∷ (v ∷ ws)) each =
    let first = not_byte 10 w (omega arith) each.0.1 in
    each-append (λ x. eqb x 10 ≡ false) w (32 ∷ line_text (v ∷ ws)) first (refl, without_ten (v ∷ ws) each.1)

line_some : (words : List (List ℕ)) → IsLine words → 0 < length (line_text words)
line_some [] h = absurd (omega arith)
line_some ((b ∷ bs) ∷ []) h = omega arith
line_some ([] ∷ ws) h = absurd (omega arith)
line_some ((b ∷ bs) ∷ (v ∷ ws)) h = omega arith

-- the lines that a text spells are read
lines_again
    : (lines : List (List (List ℕ))) → AllByRecursion IsLine lines → lines_of (lines_text lines) ≡ map line_text lines
lines_again [] each = refl
lines_again (words ∷ []) each = last_line (line_text words) (without_ten words each.0.1) (line_some words each.0)
lines_again (words ∷ (more ∷ lines)) each =
    first_line (line_text words) (lines_text (more ∷ lines)) (without_ten words each.0.1)
    ∙ ap (λ (xs : List (List ℕ)). line_text words ∷ xs) (lines_again (more ∷ lines) each.1)

lines_ended : (lines : List (List (List ℕ))) → AllByRecursion IsLine lines → 0 < length lines
    → lines_of (lines_text lines ++ 10 ∷ []) ≡ map line_text lines
lines_ended [] each some = absurd (omega arith)
lines_ended (words ∷ []) each some = first_line (line_text words) [] (without_ten words each.0.1)
lines_ended (words ∷ (more ∷ lines)) each some =
    ap lines_of (append_assoc (line_text words) (10 ∷ lines_text (more ∷ lines)) (10 ∷ []))
    ∙ first_line (line_text words) (lines_text (more ∷ lines) ++ 10 ∷ []) (without_ten words each.0.1)
    ∙ ap (λ (xs : List (List ℕ)). line_text words ∷ xs) (lines_ended (more ∷ lines) each.1 (omega arith))

pub spelled_lines
    : (lines : List (List (List ℕ))) (text : List ℕ) → SpellsLines lines text → lines_of text ≡ map line_text lines
spelled_lines lines text s = elim s.joined [
  | inl e ↦ ap lines_of e ∙ lines_again lines s.each
  | inr e ↦ ap lines_of e.1 ∙ lines_ended lines s.each e.0
]
