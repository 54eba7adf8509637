-- The units that a search reads: those of the reading of its haystack, from the place where it begins.
use Rattle.rx_spec.proofs.Prelude.{[], rules, ◌≡◌, ℕ, suc, zero, ◌+◌, ◌-◌, ◌<◌, ◌≤◌, Option, Some, None, List, ◌∷◌}
use Rattle.rx_spec.proofs.Prelude.{◌++◌, length, drop, reverse, get_or, refl, ap, ap₂, sym, ◌∙◌, subst, arith}
use Rattle.rx_spec.proofs.Prelude.{common_steps, get_or-take, get_or-drop, length-reverse, length-drop, length-take-le}
use Rattle.rx_spec.proofs.Prelude.{All-take, All-drop, All-contains, slice_get-get_or, slice_get_within}
use Rattle.rx_spec.proofs.Prelude.{get_or_from_slice_get, none-some, slice_get, All, AreBytes, unit_of, IsWord, Reading}
use Rattle.rx_spec.proofs.Prelude.{before, after, Query, in_order, reading, span_bytes, units_of, beside, first_offset}
use Rattle.rx_spec.proofs.Prelude.{next_offset, unit_offset, narrower}
use Rattle.std.proofs.lemmas.List.{get_or-reverse}
use Rattle.rx_spec.specs.declared.Direction.{Direction}
use Rattle.rx_lemmas.proofs.Mirrors.{reverse_at, before_is_after, after_is_before}
use Rattle.rx_lemmas.proofs.Words.{IsWord-nil, IsWord-cons, IsWord-append}

-- the unit at a place of a reading, and so many from a place on
abbrev pub unit_at : Reading → ℕ → ℕ
unit_at r i = unit_of (after r.units i)

unfoldable pub units_from : Reading → ℕ → ℕ → List ℕ
units_from r i zero = []
units_from r i (suc n) = unit_at r i ∷ units_from r (i + 1) n

pub units_from-zero : (r : Reading) (i : ℕ) → units_from r i 0 ≡ []
unfolding units_from
units_from-zero r i = refl

pub units_from-suc : (r : Reading) (i n : ℕ) → units_from r i (suc n) ≡ unit_at r i ∷ units_from r (i + 1) n
unfolding units_from
units_from-suc r i n = refl

pub get_or-units_from : (r : Reading) (i n k d : ℕ) → k < n → get_or (units_from r i n) k d ≡ unit_at r (i + k)
unfolding units_from
get_or-units_from r i zero k d h = absurd (omega arith)
get_or-units_from r i (suc n) zero d h = let here : i ≡ i + 0 = omega arith in ap (unit_at r) here
get_or-units_from r i (suc n) (suc k) d h =
    let place : i + 1 + k ≡ i + suc k = omega arith in
    get_or-units_from r (i + 1) n k d (omega arith) ∙ ap (unit_at r) place

-- they depend on what is read alone
pub units_from-alike : (r s : Reading) (i n : ℕ) → r.units ≡ s.units → units_from r i n ≡ units_from s i n
unfolding units_from
units_from-alike r s i zero e = refl
units_from-alike r s i (suc n) e = grind (arith, common_steps)

-- a list and one unit more, read from its first on
spelled : (r : Reading) (xs : List ℕ) (last i : ℕ)
    → ((k : ℕ) → k < length xs → slice_get xs k ≡ after r.units (i + k)) → last ≡ unit_at r (i + length xs)
    → xs ++ (last ∷ []) ≡ units_from r i (suc (length xs))
unfolding units_from
spelled r [] last i h e = let z : i + 0 ≡ i = omega arith in ap (λ (u : ℕ). u ∷ []) (e ∙ ap (unit_at r) z)
spelled r (x ∷ xs) last i h e =
    let z : i + 0 ≡ i = omega arith in
    let first : Some x ≡ after r.units i = h 0 (omega arith) ∙ ap (after r.units) z in
    let past : i + length (x ∷ xs) ≡ i + 1 + length xs = omega arith in
    let later : (k : ℕ) → k < length xs → slice_get xs k ≡ after r.units (i + 1 + k) = λ k l.
    let w : i + suc k ≡ i + 1 + k = omega arith in h (suc k) (omega arith) ∙ ap (after r.units) w in
    ap₂ (λ (u : ℕ) (us : List ℕ). u ∷ us) (ap unit_of first) (spelled r xs last (i + 1) later (e ∙ ap (unit_at r) past))

-- ---- offsets and places

-- In a haystack of so many bytes, an offset's place in the order of reading, and a place's offset.
abbrev pub place_of : Direction → ℕ → ℕ → ℕ
place_of Direction.Forward size offset = offset
place_of Direction.Reverse size offset = size - offset

pub place_of-next : (direction : Direction) (size place : ℕ)
    → next_offset direction (place_of direction size place) ≡ place_of direction size (place + 1)
place_of-next Direction.Forward size place = refl
place_of-next Direction.Reverse size place = omega arith

-- where a search begins
abbrev pub first_place : Direction → Query → ℕ
first_place direction q = place_of direction (length q.haystack) (first_offset direction q)

pub first_offset_is : (direction : Direction) (q : Query) → q.start ≤ q.end → q.end ≤ length q.haystack
    → place_of direction (length q.haystack) (first_place direction q) ≡ first_offset direction q
first_offset_is Direction.Forward q a b = refl
first_offset_is Direction.Reverse q a b = omega arith

-- what is read next at an offset, and what was read last there
abbrev pub next_byte : Direction → List ℕ → ℕ → Option ℕ
next_byte Direction.Forward haystack offset = after haystack offset
next_byte Direction.Reverse haystack offset = before haystack offset

abbrev pub last_byte : Direction → List ℕ → ℕ → Option ℕ
last_byte Direction.Forward haystack offset = before haystack offset
last_byte Direction.Reverse haystack offset = after haystack offset

pub next_at_place : (direction : Direction) (haystack : List ℕ) (offset : ℕ) → offset ≤ length haystack
    → after (in_order direction haystack) (place_of direction (length haystack) offset)
    ≡ next_byte direction haystack offset
next_at_place Direction.Forward haystack offset h = refl
next_at_place Direction.Reverse haystack offset h = before_is_after haystack offset h

pub last_at_place : (direction : Direction) (haystack : List ℕ) (offset : ℕ) → offset ≤ length haystack
    → before (in_order direction haystack) (place_of direction (length haystack) offset)
    ≡ last_byte direction haystack offset
last_at_place Direction.Forward haystack offset h = refl
last_at_place Direction.Reverse haystack offset h = after_is_before haystack offset h

-- the byte beside the span is what was read last where a search begins
pub beside_at_place : (direction : Direction) (q : Query) → q.start ≤ q.end → q.end ≤ length q.haystack
    → before (in_order direction q.haystack) (first_place direction q) ≡ beside direction q
beside_at_place Direction.Forward q a b = last_at_place Direction.Forward q.haystack q.start (omega arith)
beside_at_place Direction.Reverse q a b = last_at_place Direction.Reverse q.haystack q.end b

-- ---- a span's units

pub span_length : (q : Query) → q.start ≤ q.end → q.end ≤ length q.haystack → length (span_bytes q) ≡ q.end - q.start
span_length q a b = length-take-le (q.end - q.start) (drop q.start q.haystack) (rw length-drop (omega arith))

span_at : (q : Query) (k : ℕ) → q.end ≤ length q.haystack → k < q.end - q.start
    → slice_get (span_bytes q) k ≡ slice_get q.haystack (q.start + k)
span_at q k b h =
    let n = span_length q (omega arith) b in
    slice_get-get_or (span_bytes q) k 0 (omega arith)
    ∙ ap Some (get_or-take (q.end - q.start) (drop q.start q.haystack) k 0 h ∙ get_or-drop q.start q.haystack k 0)
    ∙ sym (slice_get-get_or q.haystack (q.start + k) 0 (omega arith))

span_back : (q : Query) (k : ℕ) → q.end ≤ length q.haystack → k < q.end - q.start
    → slice_get (reverse (span_bytes q)) k ≡ after (reverse q.haystack) (length q.haystack - q.end + k)
span_back q k b h = grind (arith, common_steps, reverse_at, span_at)

-- The units of a search are those of the reading, from the place where it begins.
pub units_read : (direction : Direction) (t : ℕ) (q : Query) → q.start ≤ q.end → q.end ≤ length q.haystack
    → units_of direction q
    ≡ units_from (reading direction t q.haystack) (first_place direction q) (suc (q.end - q.start))
units_read Direction.Forward t q a b = grind (arith, common_steps, spelled, span_at)
units_read Direction.Reverse t q a b =
    let n = length-reverse (span_bytes q) ∙ span_length q a b in
    let r = reading Direction.Reverse t q.haystack in
    let first = length q.haystack - q.end in
    let past : length q.haystack - q.start ≡ first + length (reverse (span_bytes q)) = omega arith in
    spelled r (reverse (span_bytes q)) (unit_of (before q.haystack q.start)) first
    (λ k h. span_back q k b (subst (λ m. k < m) n h))
    (ap unit_of (sym (before_is_after q.haystack q.start (omega arith))) ∙ ap (unit_at r) past)
    ∙ ap (λ m. units_from r first (suc m)) n

-- ---- a span's units, one by one

next_place : (direction : Direction) (q : Query) → q.start < q.end → q.end ≤ length q.haystack
    → first_place direction q + 1 ≡ first_place direction (narrower direction q)
next_place Direction.Forward q a b = refl
next_place Direction.Reverse q a b = omega arith

next_byte_is : (direction : Direction) (q : Query) (d : ℕ) → q.start < q.end → q.end ≤ length q.haystack
    → next_byte direction q.haystack (first_offset direction q)
    ≡ Some (get_or q.haystack (unit_offset direction (first_offset direction q)) d)
next_byte_is Direction.Forward q d a b = slice_get-get_or q.haystack q.start d (omega arith)
next_byte_is Direction.Reverse q d a b = search (rules, slice_get-get_or)

narrower_reads : (direction : Direction) (t : ℕ) (q : Query) → q.start < q.end → q.end ≤ length q.haystack
    → units_of direction (narrower direction q)
    ≡ units_from (reading direction t q.haystack) (first_place direction (narrower direction q)) (q.end - q.start)
narrower_reads Direction.Forward t q a b =
    let count : suc (q.end - (q.start + 1)) ≡ q.end - q.start = omega arith in
    units_read Direction.Forward t (narrower Direction.Forward q) (omega arith) b
    ∙ ap (units_from (reading Direction.Forward t q.haystack) (q.start + 1)) count
narrower_reads Direction.Reverse t q a b =
    let count : suc (q.end - 1 - q.start) ≡ q.end - q.start = omega arith in
    units_read Direction.Reverse t (narrower Direction.Reverse q) (omega arith) (omega arith)
    ∙ ap (units_from (reading Direction.Reverse t q.haystack) (length q.haystack - (q.end - 1))) count

first_within : (direction : Direction) (q : Query) → q.start ≤ q.end → q.end ≤ length q.haystack
    → first_offset direction q ≤ length q.haystack
first_within Direction.Forward q a b = omega arith
first_within Direction.Reverse q a b = b

-- the next byte of the span, and then those of the span without it
pub units_of-more : (direction : Direction) (q : Query) (d : ℕ) → q.start < q.end → q.end ≤ length q.haystack
    → units_of direction q ≡ get_or q.haystack (unit_offset direction (first_offset direction q)) d
    ∷ units_of direction (narrower direction q)
units_of-more direction q d a b =
    let r = reading direction 0 q.haystack in
    let first = first_place direction q in
    let here = first_within direction q (omega arith) b in
    units_read direction 0 q (omega arith) b ∙ units_from-suc r first (q.end - q.start)
    ∙ ap₂ (λ (u : ℕ) (us : List ℕ). u ∷ us)
    (ap unit_of (next_at_place direction q.haystack (first_offset direction q) here ∙ next_byte_is direction q d a b))
    (ap (λ i. units_from r i (q.end - q.start)) (next_place direction q a b) ∙ sym (narrower_reads direction 0 q a b))

-- ---- bytes

-- what holds of each holds of one that is there
pub All-got : {X : Type 0} (P : X → Type 0) (xs : List X) (i : ℕ) (x : X) → All P xs → slice_get xs i ≡ Some x → P x
All-got P xs i x h e = subst P (get_or_from_slice_get xs i x x e) (h i x (slice_get_within xs i x e))

pub bytes_reversed : (bytes : List ℕ) → AreBytes bytes → AreBytes (reverse bytes)
bytes_reversed bytes h = grind (arith, common_steps, get_or-reverse)

pub bytes_in_order : (direction : Direction) (haystack : List ℕ) → AreBytes haystack
    → AreBytes (in_order direction haystack)
bytes_in_order Direction.Forward haystack h = h
bytes_in_order Direction.Reverse haystack h = bytes_reversed haystack h

pub narrower_bytes : (direction : Direction) (q : Query) → AreBytes q.haystack
    → AreBytes (narrower direction q).haystack
narrower_bytes Direction.Forward q h = h
narrower_bytes Direction.Reverse q h = h

-- a neighbour that is there is a byte
before_is_byte : (haystack : List ℕ) (i byte : ℕ) → AreBytes haystack → before haystack i ≡ Some byte → byte < 256
before_is_byte haystack zero byte h e = absurd (none-some byte e)
before_is_byte haystack (suc i) byte h e = All-got (λ b. b < 256) haystack i byte h e

pub beside_is_byte : (direction : Direction) (q : Query) (byte : ℕ) → AreBytes q.haystack
    → beside direction q ≡ Some byte
    → byte < 256
beside_is_byte Direction.Forward q byte h e = before_is_byte q.haystack q.start byte h e
beside_is_byte Direction.Reverse q byte h e = All-got (λ b. b < 256) q.haystack q.end byte h e

-- what is read is a word
pub bytes_word : (bytes : List ℕ) → AreBytes bytes → IsWord bytes
bytes_word bytes h unit c = let below = All-contains (λ b. b < 256) bytes unit h c in omega arith

unit_word : (byte : Option ℕ) → ((b : ℕ) → byte ≡ Some b → b < 256) → IsWord (unit_of byte ∷ [])
unit_word None h = IsWord-cons 256 [] (omega arith) IsWord-nil
unit_word (Some b) h = let below = h b refl in IsWord-cons b [] (omega arith) IsWord-nil

pub units_word : (direction : Direction) (q : Query) → AreBytes q.haystack → IsWord (units_of direction q)
units_word Direction.Forward q h =
    let span = All-take (λ b. b < 256) (q.end - q.start) (drop q.start q.haystack)
    (All-drop (λ b. b < 256) q.start q.haystack h) in
    IsWord-append (span_bytes q) (unit_of (after q.haystack q.end) ∷ []) (bytes_word (span_bytes q) span)
    (unit_word (after q.haystack q.end) (λ b e. All-got (λ b. b < 256) q.haystack q.end b h e))
units_word Direction.Reverse q h =
    let span = All-take (λ b. b < 256) (q.end - q.start) (drop q.start q.haystack)
    (All-drop (λ b. b < 256) q.start q.haystack h) in
    IsWord-append (reverse (span_bytes q)) (unit_of (before q.haystack q.start) ∷ [])
    (bytes_word (reverse (span_bytes q)) (bytes_reversed (span_bytes q) span))
    (unit_word (before q.haystack q.start) (λ b e. before_is_byte q.haystack q.start b h e))
