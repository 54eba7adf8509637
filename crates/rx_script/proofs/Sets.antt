-- Sets of bytes: what is read is spelled so, and what is spelled so is read.
use Rattle.rx_spec.proofs.Prelude.{common_steps, ◌≡◌, ◌≢◌, inl, inr, ℕ, ◌<◌, false, eqb, leb, bit_or, List, [], ◌∷◌}
use Rattle.rx_spec.proofs.Prelude.{◌++◌, length, Option, Some, None, refl, sym, ap, subst, ◌∙◌, append-nil, arith}
use Rattle.rx_spec.proofs.Prelude.{codes, option_and_then, AllByRecursion, slice_split, bytes_eq, cases_Bool, eqb-true}
use Rattle.rx_spec.proofs.Prelude.{leb-true, le-leb, ne_eqb, same_Some, All-from_recursion, slice_split_none, between}
use Rattle.std.specs.List.{join_with_byte}
use Rattle.std.proofs.lemmas.Option.{cond_some}
use Rattle.std.proofs.lemmas.List.Splits.{slice_split_at, join_with_byte-slice_split}
use Rattle.rx_script.specs.Tokens.{byte_of, single, ordered, range_of, ranges_from, set_of_word}
use Rattle.rx_script.specs.Grammar.{SpellsDigit, SpellsByte, SpellsDashed, SpellsRange, SpellsRanges, SpellsSet}
use Rattle.rx_script.specs.Grammar.{with_range, union_onto}
use Rattle.rx_script.proofs.Cut.{some_piece}
use Rattle.rx_script.proofs.Tables.{same_word, other_word}
use Rattle.rx_script.proofs.Bytes.{pair_spelled, pair_read}

-- ---- one range

byte_word : (h l b : ℕ) → byte_of h l ≡ Some b → SpellsByte b (h ∷ (l ∷ []))
byte_word h l b e = record { high = h; low = l; digits = pair_spelled h l b e; word_is = refl }

one_spelled : (h l : ℕ) (r : ℕ × ℕ) → single (byte_of h l) ≡ Some r → SpellsRange r (h ∷ (l ∷ []))
one_spelled h l r e = grind (arith, common_steps, byte_word)

two_spelled : (h l h' l' : ℕ) (r : ℕ × ℕ) → ordered (byte_of h l) (byte_of h' l') ≡ Some r
    → SpellsRange r (h ∷ (l ∷ (45 ∷ (h' ∷ (l' ∷ [])))))
two_spelled h l h' l' r e = on (byte_of h l) (byte_of h' l') refl refl e where
  on : (o o' : Option ℕ) → byte_of h l ≡ o → byte_of h' l' ≡ o' → ordered o o' ≡ Some r
      → SpellsRange r (h ∷ (l ∷ (45 ∷ (h' ∷ (l' ∷ [])))))
  on None o' p q z = absurd cc
  on (Some a) None p q z = absurd cc
  on (Some a) (Some b) p q z =
      let c = cond_some (leb a b) (a, b) r z in
      subst (λ (x : ℕ × ℕ). SpellsRange x (h ∷ (l ∷ (45 ∷ (h' ∷ (l' ∷ [])))))) c.1
      (inr (record {
        first = h ∷ (l ∷ []);
        last = h' ∷ (l' ∷ []);
        first_spelled = byte_word h l a p;
        last_spelled = byte_word h' l' b q;
        ordered = leb-true a b c.0;
        piece_is = refl;
      }))

range_spelled : (piece : List ℕ) (r : ℕ × ℕ) → range_of piece ≡ Some r → SpellsRange r piece
range_spelled (h ∷ (l ∷ [])) r e = one_spelled h l r e
range_spelled (h ∷ (l ∷ (dash ∷ (h' ∷ (l' ∷ []))))) r e = elim (cases_Bool (eqb dash 45)) [
  | inl d ↦
      subst (λ (x : ℕ). SpellsRange r (h ∷ (l ∷ (x ∷ (h' ∷ (l' ∷ [])))))) (sym (eqb-true dash 45 d))
      (two_spelled h l h' l' r (rw d at e))
  | inr d ↦ absurd (let z = rw d at e in cc)
]
range_spelled [] r e = absurd cc
range_spelled (a ∷ []) r e = absurd cc
range_spelled (a ∷ (b ∷ (c ∷ []))) r e = absurd cc
range_spelled (a ∷ (b ∷ (c ∷ (d ∷ [])))) r e = absurd cc
range_spelled (a ∷ (b ∷ (c ∷ (d ∷ (f ∷ (g ∷ hs)))))) r e = absurd cc

dashed_is
    : {r : ℕ × ℕ} {piece : List ℕ} (s : SpellsDashed r piece) → let a = s.first_spelled in let b = s.last_spelled in
    piece ≡ a.high ∷ (a.low ∷ (45 ∷ (b.high ∷ (b.low ∷ []))))
dashed_is s =
    s.piece_is ∙ ap (λ (x : List ℕ). x ++ (45 ∷ s.last)) s.first_spelled.word_is
    ∙ ap (λ (x : List ℕ). s.first_spelled.high ∷ (s.first_spelled.low ∷ (45 ∷ x))) s.last_spelled.word_is

range_read : (piece : List ℕ) (r : ℕ × ℕ) → SpellsRange r piece → range_of piece ≡ Some r
range_read piece r (inl (s, same)) = grind (arith, common_steps)
range_read piece r (inr s) =
    let a = s.first_spelled in
    let b = s.last_spelled in
    ap range_of (dashed_is s)
    ∙ rw (pair_read a.high a.low r.0 a.digits, pair_read b.high b.low r.1 b.digits, le-leb r.0 r.1 s.ordered) refl

-- ---- ranges

abbrev AreRanges : ℕ → List (List ℕ) → ℕ → Type 0
AreRanges set pieces union = (ranges : List (ℕ × ℕ)) × SpellsRanges ranges pieces × (union ≡ union_onto set ranges)

ranges_spelled
    : (set : ℕ) (pieces : List (List ℕ)) (union : ℕ) → ranges_from set pieces ≡ Some union → AreRanges set pieces union
ranges_spelled set [] union e = ([], tt, sym (same_Some set union e))
ranges_spelled set (piece ∷ pieces) union e = on (range_of piece) refl (λ s z. ranges_spelled s pieces union z) e where
  on : (o : Option (ℕ × ℕ)) → range_of piece ≡ o
      → ((s : ℕ) → ranges_from s pieces ≡ Some union → AreRanges s pieces union)
      → option_and_then (λ r. ranges_from (bit_or set (between r.0 r.1)) pieces) o ≡ Some union
      → AreRanges set (piece ∷ pieces) union
  on None p again z = absurd cc
  on (Some r) p again z =
      let a = again (with_range set r) z in
      (r ∷ a.0, (range_spelled piece r p, a.1), a.2)

ranges_read : (set : ℕ) (ranges : List (ℕ × ℕ)) (pieces : List (List ℕ)) → SpellsRanges ranges pieces
    → ranges_from set pieces ≡ Some (union_onto set ranges)
ranges_read set [] [] s = refl
ranges_read set [] (piece ∷ pieces) s = absurd s
ranges_read set (r ∷ rs) [] s = absurd s
ranges_read set (r ∷ rs) (piece ∷ pieces) s = rw (range_read piece r s.0) (ranges_read (with_range set r) rs pieces s.1)

-- ---- sets

pub set_spelled : (word : List ℕ) (set : ℕ) → set_of_word word ≡ Some set → SpellsSet set word
unfolding set_of_word
set_spelled word set e = elim (cases_Bool (bytes_eq word (codes "none"))) [
  | inl h ↦ inl (same_word word (codes "none") h, sym (same_Some 0 set (rw h at e)))
  | inr h ↦
      let pieces = slice_split (λ b. eqb b 44) word in
      let r = ranges_spelled 0 pieces set (rw h at e) in
      inr (record {
        ranges = r.0;
        pieces = pieces;
        some = some_piece 44 word;
        spelled = r.1;
        joined = sym (join_with_byte-slice_split 44 word);
        made = r.2;
      })
]

-- digits and dashes are no commas
abbrev NoComma : List ℕ → Type 0
NoComma piece = AllByRecursion (λ x. eqb x 44 ≡ false) piece

no_digit_comma : {v c : ℕ} → SpellsDigit v c → eqb c 44 ≡ false
no_digit_comma {v = v} {c = c} d = ne_eqb c 44 (λ e. omega arith)

no_byte_comma
    : {b : ℕ} {word : List ℕ} (rest : List ℕ) (s : SpellsByte b word) → NoComma rest → NoComma (s.high ∷ (s.low ∷ rest))
no_byte_comma rest s more =
    (no_digit_comma {v = s.digits.0} s.digits.2, (no_digit_comma {v = s.digits.1} s.digits.3, more))

no_comma : (r : ℕ × ℕ) (piece : List ℕ) → SpellsRange r piece → NoComma piece
no_comma r piece (inl (s, same)) = subst NoComma (sym s.word_is) (no_byte_comma [] s tt)
no_comma r piece (inr s) = grind (arith, common_steps)

pieces_again : (ranges : List (ℕ × ℕ)) (pieces : List (List ℕ)) → 0 < length pieces → SpellsRanges ranges pieces
    → slice_split (λ b. eqb b 44) (join_with_byte 44 pieces) ≡ pieces
pieces_again [] [] some s = absurd (omega arith)
pieces_again [] (piece ∷ pieces) some s = absurd s
pieces_again (r ∷ rs) [] some s = absurd s
pieces_again (r ∷ rs) (piece ∷ []) some s =
    slice_split_none (λ b. eqb b 44) piece (All-from_recursion _ piece (no_comma r piece s.0))
pieces_again (r ∷ rs) (piece ∷ (next ∷ pieces)) some s =
    let none = All-from_recursion _ piece (no_comma r piece s.0) in
    slice_split_at (λ b. eqb b 44) piece 44 (join_with_byte 44 (next ∷ pieces)) none refl
    ∙ ap (λ (xs : List (List ℕ)). piece ∷ xs) (pieces_again rs (next ∷ pieces) (omega arith) s.1)

first_digit : (r : ℕ × ℕ) (piece more : List ℕ) → SpellsRange r piece → piece ++ more ≢ codes "none"
first_digit r piece more (inl (s, same)) e = grind (arith, common_steps)
first_digit r piece more (inr s) e = grind (arith, common_steps)

not_none : (ranges : List (ℕ × ℕ)) (pieces : List (List ℕ)) → 0 < length pieces → SpellsRanges ranges pieces
    → join_with_byte 44 pieces ≢ codes "none"
not_none [] [] some s e = absurd (omega arith)
not_none [] (piece ∷ pieces) some s e = absurd s
not_none (r ∷ rs) [] some s e = absurd s
not_none (r ∷ rs) (piece ∷ []) some s e = first_digit r piece [] s.0 (append-nil piece ∙ e)
not_none (r ∷ rs) (piece ∷ (next ∷ pieces)) some s e =
    first_digit r piece (44 ∷ join_with_byte 44 (next ∷ pieces)) s.0 e

pub set_read : (word : List ℕ) (set : ℕ) → SpellsSet set word → set_of_word word ≡ Some set
unfolding set_of_word
set_read word set (inl h) = ap set_of_word h.0 ∙ ap (λ (x : ℕ). Some x) (sym h.1)
set_read word set (inr u) =
    let joined = join_with_byte 44 u.pieces in
    let some_range = other_word joined (codes "none") (not_none u.ranges u.pieces u.some u.spelled) in
    ap set_of_word u.joined ∙ rw some_range refl ∙ ap (ranges_from 0) (pieces_again u.ranges u.pieces u.some u.spelled)
    ∙ ranges_read 0 u.ranges u.pieces u.spelled ∙ ap (λ (x : ℕ). Some x) (sym u.made)
