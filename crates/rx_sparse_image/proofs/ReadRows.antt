-- What it says that a row was read: what each test says of a part of its bytes.
use Rattle.rx_spec.proofs.Prelude.{common_steps, [], ◌≡◌, ℕ, zero, suc, ◌+◌, ◌-◌, ◌*◌, ◌<◌, ◌≤◌, Bool, true, false, not}
use Rattle.rx_spec.proofs.Prelude.{if◌then◌else◌, leb, ltb, eqb, List, ◌∷◌, length, take, drop, slice_index, Result, Ok}
use Rattle.rx_spec.proofs.Prelude.{Err, refl, ap, sym, ◌∙◌, length-drop, arith, ◌≢◌, w16, w32, and_parts, eqb-false}
use Rattle.rx_spec.proofs.Prelude.{leb-true, ltb-true, drop-drop, get_or-map-range_with_len, length-map-range_with_len}
use Rattle.rx_spec.proofs.Prelude.{max_id}
use Rattle.std.specs.Int.{Width, byte_len}
use Rattle.rx_wire.specs.declared.order.Order.{Order}
use Rattle.rx_wire.specs.Kinds.{Kind, ◌>>=◌}
use Rattle.rx_wire.specs.Fields.{bytes_at, number, number_at}
use Rattle.rx_dense.specs.Specials.{is_accel_id}
use Rattle.rx_sparse.specs.Rows.{Row, behind_ends, count_in, ends_in, is_match_in, is_some_list, next_ids_in}
use Rattle.rx_sparse.specs.Rows.{patterns_in, patterns_len, rest_in, row_in, word_at, words_in}
use Rattle.rx_sparse_image.specs.declared.rows.Bounds.{Bounds}
use Rattle.rx_sparse_image.specs.Walks.{after_patterns, after_patterns_if, are_ends, each_passes, ends_at, has_count}
use Rattle.rx_sparse_image.specs.Walks.{head_at, is_head, may_be_special, may_have, needles_at, next_ids_at, row_at}
use Rattle.rx_sparse_image.specs.Walks.{tested, tested_count, tested_id, tested_next, tested_pattern}
use Rattle.rx_sparse_image.proofs.DecodedBytes.{word_in_front}

-- ---- steps, taken apart

-- a step that gave a value, and what followed gave one too
pub bind_ok : {A B : Type 0} (r : Result A Kind) (f : A → Result B Kind) (y : B) → (r >>= f) ≡ Ok y
    → (x : A) × (r ≡ Ok x) × (f x ≡ Ok y)
bind_ok (Ok x) f y e = (x, refl, e)
bind_ok (Err kind) f y e = absurd cc

abbrev done : {A : Type 0} → A → Result A Kind
done x = Ok x

-- values of two that are the same are the same
ok_is : {A : Type 0} (x y : A) → done x ≡ done y → x ≡ y
ok_is x y e = cc

-- and their parts
ok_parts : {A B : Type 0} (x y : A × B) → done x ≡ done y → (x.0 ≡ y.0) × (x.1 ≡ y.1)
ok_parts x y e = (ap (λ p. p.0) (ok_is x y e), ap (λ p. p.1) (ok_is x y e))

-- a step that can only give one value, and a fact that is true where it does
then_is : {A B : Type 0} (r : Result A Kind) (f : A → Result B Kind) (y : B) (x : A) (P : Type 0)
    → ((z : A) → r ≡ Ok z → P × (x ≡ z)) → (r >>= f) ≡ Ok y → P × (f x ≡ Ok y)
then_is (Ok z) f y x P one e = let p = one z refl in (p.0, ap f p.1 ∙ e)
then_is (Err kind) f y x P one e = absurd cc

-- a test that was passed
if_ok : {A : Type 0} (t : Bool) (x y : A) (kind : Kind) → (if t then Ok x else Err kind) ≡ Ok y → (t ≡ true) × (x ≡ y)
if_ok true x y kind e = (refl, cc)
if_ok false x y kind e = absurd cc

-- a test that was passed, and what follows it
else_ok : {A : Type 0} (t : Bool) (r : Result A Kind) (y : A) (kind : Kind) → (if not t then Err kind else r) ≡ Ok y
    → (t ≡ true) × (r ≡ Ok y)
else_ok true r y kind e = (refl, e)
else_ok false r y kind e = absurd cc

-- a number that was tested
then_tested : {B : Type 0} (holds : Bool) (kind : Kind) (n : ℕ) (f : ℕ → Result B Kind) (y : B)
    → (tested holds kind n >>= f) ≡ Ok y → (holds ≡ true) × (f n ≡ Ok y)
then_tested true kind n f y e = (refl, e)
then_tested false kind n f y e = absurd cc

-- a number that was there
then_number : {B : Type 0} (f : ℕ × List ℕ → Result B Kind) (y : B) (order : Order) (w : Width) (bytes : List ℕ)
    → (number_at order w bytes >>= f) ≡ Ok y
    → (byte_len w ≤ length bytes) × (f (number order w (take (byte_len w) bytes), drop (byte_len w) bytes) ≡ Ok y)
unfolding number_at
then_number f y order w bytes e = grind (arith, common_steps)

-- bytes that were there
bytes_ok : (count : ℕ) (bytes : List ℕ) (x : List ℕ × List ℕ) → bytes_at count bytes ≡ Ok x
    → (count ≤ length bytes) × ((take count bytes, drop count bytes) ≡ x)
unfolding bytes_at
bytes_ok count bytes x e = grind (arith, common_steps)

-- and what follows them gave a value
then_bytes : {B : Type 0} (f : List ℕ × List ℕ → Result B Kind) (y : B) (count : ℕ) (bytes : List ℕ)
    → (bytes_at count bytes >>= f) ≡ Ok y → (count ≤ length bytes) × (f (take count bytes, drop count bytes) ≡ Ok y)
then_bytes f y count bytes e = grind (arith, common_steps, bytes_ok)

-- each number passed
each_ok : (test : ℕ → Result ℕ Kind) (ns : List ℕ) (count : ℕ) → each_passes test ns ≡ Ok count
    → (k : ℕ) → k < length ns → (m : ℕ) × (test (slice_index ns k) ≡ Ok m)
unfolding each_passes
each_ok test [] count e k h = elim h [ ]
each_ok test (n ∷ ns) count e zero h = grind (arith, common_steps)
each_ok test (n ∷ ns) count e (suc k) h =
    let p = bind_ok (test n) (λ first. each_passes test ns >>= (λ c. Ok (suc c))) count e in
    let q = bind_ok (each_passes test ns) (λ c. Ok (suc c)) count p.2 in
    each_ok test ns q.0 q.1 k (omega arith)

-- each word passed
words_ok : (test : ℕ → Result ℕ Kind) (order : Order) (count : ℕ) (bytes : List ℕ) (passed : ℕ)
    → each_passes test (words_in order count bytes) ≡ Ok passed
    → (k : ℕ) → k < count → (m : ℕ) × (test (word_at order bytes k) ≡ Ok m)
words_ok test order count bytes passed e k h =
    let len = length-map-range_with_len (word_at order bytes) 0 count in
    let p = each_ok test (words_in order count bytes) passed e k (omega arith) in
    (p.0, ap test (sym (get_or-map-range_with_len (word_at order bytes) 0 count k k 0 h (omega arith))) ∙ p.1)

-- a number that passed two tests
two_ok : (s t : Bool) (first second : Kind) (n m : ℕ)
    → (if not s then Err first else (if t then Ok n else Err second)) ≡ Ok m → (s ≡ true) × (t ≡ true)
two_ok true true first second n m e = (refl, refl)
two_ok true false first second n m e = absurd cc
two_ok false t first second n m e = absurd cc

-- a number that failed one test and passed another
one_ok : (s t : Bool) (first second : Kind) (n m : ℕ)
    → (if s then Err first else (if t then Ok n else Err second)) ≡ Ok m → (s ≡ false) × (t ≡ true)
one_ok false true first second n m e = (refl, refl)
one_ok false false first second n m e = absurd cc
one_ok true t first second n m e = absurd cc

-- ---- the head

module _ (b : Bounds) (at : ℕ) (bytes : List ℕ) where
  -- the number at the front
  abbrev pub head_word : ℕ
  head_word = number b.order w16 (take 2 bytes)

  -- a head that passed
  pub record IsReadHead : Type 0 where
    pub special : may_be_special b at ≡ true
    pub long : 2 ≤ length bytes
    pub may : is_head b at head_word ≡ true

  -- the head that was read is the number at the front
  head_ok : (head : ℕ × List ℕ) → head_at b at bytes ≡ Ok head → IsReadHead × ((head_word, drop 2 bytes) ≡ head)
  unfolding head_at
  head_ok head e =
      let p = then_tested (may_be_special b at) Kind.Generic at _ head e in
      let n = then_number _ head b.order w16 bytes p.1 in
      let r = then_tested (is_head b at head_word) Kind.Generic head_word _ head n.1 in
      (record { special = p.0; long = n.0; may = r.0 }, cc)

-- ---- ends and next ids

module _ (b : Bounds) (count : ℕ) (bytes : List ℕ) where
  -- the ends that were read, which passed their test
  ends_ok : (ends : List ℕ × List ℕ) → ends_at b count bytes ≡ Ok ends
      → (2 * count ≤ length bytes) × (are_ends b.last_class count (take (2 * count) bytes) ≡ true)
      × ((take (2 * count) bytes, drop (2 * count) bytes) ≡ ends)
  unfolding ends_at
  ends_ok ends e =
      let p = then_bytes _ ends (2 * count) bytes e in
      let q = if_ok (are_ends b.last_class count (take (2 * count) bytes)) _ ends Kind.Generic p.1 in
      (p.0, q.0, q.1)

  -- next ids that passed
  pub record AreReadIds : Type 0 where
    pub long : 4 * count ≤ length bytes
    pub small : (k : ℕ) → k < count → word_at b.order (take (4 * count) bytes) k ≤ max_id
    pub near : (k : ℕ) → k < count → word_at b.order (take (4 * count) bytes) k ≤ b.len

  -- the next ids that were read
  next_ids_ok : (ids : List ℕ × List ℕ) → next_ids_at b count bytes ≡ Ok ids
      → AreReadIds × ((take (4 * count) bytes, drop (4 * count) bytes) ≡ ids)
  unfolding next_ids_at
  next_ids_ok ids e =
      let front : List ℕ = take (4 * count) bytes in
      let p = then_bytes _ ids (4 * count) bytes e in
      let q = bind_ok (each_passes (tested_id b) (words_in b.order count front)) _ ids p.1 in
      let each : (k : ℕ) → k < count → (word_at b.order front k ≤ max_id) × (word_at b.order front k ≤ b.len) =
      λ k h.
      let id : ℕ = word_at b.order front k in
      let r = words_ok (tested_id b) b.order count front q.0 q.1 k h in
      let t = two_ok (leb id max_id) (leb id b.len) (Kind.StateID id) Kind.BufferTooSmall id r.0 r.1 in
      (leb-true id max_id t.0, leb-true id b.len t.1)
      in
      (record { long = p.0; small = λ k h. (each k h).0; near = λ k h. (each k h).1 }, cc)

-- ---- patterns

-- a count that is not 0
then_count : {B : Type 0} (count : ℕ) (f : ℕ → Result B Kind) (y : B) → (tested_count count >>= f) ≡ Ok y
    → (1 ≤ count) × (f count ≡ Ok y)
then_count count f y e = grind (arith, common_steps)

-- words of a count that is not 0
some_words : (order : Order) (count : ℕ) (bytes : List ℕ) → 1 ≤ count → is_some_list (words_in order count bytes) ≡ true
some_words order zero bytes h = absurd (omega arith)
some_words order (suc count) bytes h = refl

module _ (b : Bounds) (is_match : Bool) (bytes : List ℕ) where
  -- the patterns among the bytes
  abbrev patterns : List ℕ
  patterns = patterns_in b.order is_match bytes

  -- patterns that passed
  pub record AreReadPatterns : Type 0 where
    pub long : patterns_len b.order is_match bytes ≤ length bytes
    pub some : is_some_list patterns ≡ is_match
    pub small : (i : ℕ) → i < length patterns → slice_index patterns i ≤ max_id
    pub known : (i : ℕ) → i < length patterns → slice_index patterns i < b.pattern_len

module _ (b : Bounds) (bytes after : List ℕ) where
  -- the patterns of a match row that were read
  after_ok : after_patterns b bytes ≡ Ok after
      → AreReadPatterns b true bytes × (drop (patterns_len b.order true bytes) bytes ≡ after)
  unfolding after_patterns
  after_ok e =
      let count : ℕ = word_at b.order bytes 0 in
      let behind : List ℕ = drop 4 bytes in
      let front : List ℕ = take (4 * count) behind in
      let q = then_count count _ after (then_number _ after b.order w32 bytes e).1 in
      let r = then_bytes _ after (4 * count) behind q.1 in
      let t = bind_ok (each_passes (tested_pattern b) (words_in b.order count front)) _ after r.1 in
      let len : length (words_in b.order count behind) ≡ count =
      length-map-range_with_len (word_at b.order behind) 0 count in
      let each : (i : ℕ) → i < length (words_in b.order count behind)
      → (slice_index (words_in b.order count behind) i ≤ max_id)
      × (slice_index (words_in b.order count behind) i < b.pattern_len) =
      λ i h.
      let low : i < count = omega arith in
      let none : 0 + i ≡ i = omega arith in
      let id : ℕ = word_at b.order front i in
      let here : slice_index (words_in b.order count behind) i ≡ id =
      get_or-map-range_with_len (word_at b.order behind) 0 count i i 0 low none
      ∙ sym (word_in_front b.order count behind i low) in
      let u = words_ok (tested_pattern b) b.order count front t.0 t.1 i low in
      let v = two_ok (leb id max_id) (ltb id b.pattern_len) (Kind.PatternID id) Kind.Generic id u.0 u.1 in
      (omega (arith, leb-true id max_id v.0), omega (arith, ltb-true id b.pattern_len v.1))
      in
      let length_behind = length-drop 4 bytes in (
        record {
          long = omega arith;
          some = some_words b.order count behind q.0;
          small = λ i h. (each i h).0;
          known = λ i h. (each i h).1;
        },
        sym (drop-drop (4 * count) 4 bytes) ∙ cc,
      )

  -- and of any row
  after_if_ok : (is_match : Bool) → after_patterns_if b is_match bytes ≡ Ok after
      → AreReadPatterns b is_match bytes × (drop (patterns_len b.order is_match bytes) bytes ≡ after)
  after_if_ok true e = after_ok e
  after_if_ok false e = grind (arith, common_steps)

-- ---- needles

module _ (is_accel : Bool) (bytes : List ℕ) where
  -- how many needles the first byte tells
  abbrev pub needle_count : ℕ
  needle_count = slice_index bytes 0

  -- needles that passed
  pub record AreReadNeedles : Type 0 where
    pub may : may_have is_accel needle_count ≡ true
    pub long : 1 + needle_count ≤ length bytes

  -- the needles that were read
  needles_ok : (needles : List ℕ × List ℕ) → needles_at is_accel bytes ≡ Ok needles
      → AreReadNeedles × ((take needle_count (drop 1 bytes), drop needle_count (drop 1 bytes)) ≡ needles)
  unfolding needles_at
  needles_ok needles e =
      let p = else_ok (has_count is_accel bytes) _ needles Kind.Generic e in
      let q = and_parts (ltb 0 (length bytes)) (may_have is_accel needle_count) p.0 in
      let r = bytes_ok needle_count (drop 1 bytes) needles p.1 in
      (record { may = q.1; long = omega (arith, length-drop 1 bytes, ltb-true 0 (length bytes) q.0) }, r.1)

-- ---- a row

module _ (b : Bounds) (at : ℕ) (bytes : List ℕ) where
  -- what follows the patterns
  abbrev pub behind_patterns : List ℕ
  behind_patterns =
      drop (patterns_len b.order (is_match_in b.order bytes) (rest_in b.order bytes)) (rest_in b.order bytes)

  -- a row whose parts passed
  pub record IsReadRow (row : Row) (rest : List ℕ) : Type 0 where
    pub head : IsReadHead b at bytes
    pub ends_long : 2 * count_in b.order bytes ≤ length (drop 2 bytes)
    pub ends : are_ends b.last_class (count_in b.order bytes) (ends_in b.order bytes) ≡ true
    pub ids : AreReadIds b (count_in b.order bytes) (behind_ends b.order bytes)
    pub patterns : AreReadPatterns b (is_match_in b.order bytes) (rest_in b.order bytes)
    pub needles : AreReadNeedles (is_accel_id b.special at) behind_patterns
    pub eoi : word_at b.order (next_ids_in b.order bytes) (count_in b.order bytes - 1) ≢ b.special.quit
    pub next : b.len - length rest ≤ max_id
    pub is : row ≡ row_in b.order bytes
    pub behind : rest ≡ drop (1 + slice_index behind_patterns 0) behind_patterns

  -- what a row that was read says of its bytes
  pub row_ok : (row : Row) (rest : List ℕ) → row_at b at bytes ≡ Ok (row, rest) → IsReadRow row rest
  unfolding row_at
  row_ok row rest e =
      let order : Order = b.order in
      let count : ℕ = count_in order bytes in
      let behind : List ℕ = rest_in order bytes in
      let is_match : Bool = is_match_in order bytes in
      let head = then_is (head_at b at bytes) _ (row, rest) (head_word b at bytes, drop 2 bytes) (IsReadHead b at bytes)
      (head_ok b at bytes) e in
      let ends = then_is (ends_at b count (drop 2 bytes)) _ (row, rest) (ends_in order bytes, behind_ends order bytes)
      ((2 * count ≤ length (drop 2 bytes)) × (are_ends b.last_class count (ends_in order bytes) ≡ true))
      (λ z r. let p = ends_ok b count (drop 2 bytes) z r in ((p.0, p.1), p.2)) head.1 in
      let ids = then_is (next_ids_at b count (behind_ends order bytes)) _ (row, rest) (next_ids_in order bytes, behind)
      (AreReadIds b count (behind_ends order bytes))
      (next_ids_ok b count (behind_ends order bytes)) ends.1 in
      let patterns = then_is (after_patterns_if b is_match behind) _ (row, rest) behind_patterns
      (AreReadPatterns b is_match behind) (λ z r. after_if_ok b behind z is_match r) ids.1 in
      let is_accel : Bool = is_accel_id b.special at in
      let needles = then_is (needles_at is_accel behind_patterns) _ (row, rest) (
        take (slice_index behind_patterns 0) (drop 1 behind_patterns),
        drop (slice_index behind_patterns 0) (drop 1 behind_patterns),
      )
      (AreReadNeedles is_accel behind_patterns) (needles_ok is_accel behind_patterns) patterns.1 in
      let left : List ℕ = drop (slice_index behind_patterns 0) (drop 1 behind_patterns) in
      let eoi : ℕ = word_at order (next_ids_in order bytes) (count - 1) in
      let n : ℕ = b.len - length left in
      let next = bind_ok (tested_next b eoi n) _ (row, rest) needles.1 in
      let t = one_ok (eqb eoi b.special.quit) (leb n max_id) Kind.Generic (Kind.StateID n) n next.0 next.1 in
      let same = ok_parts (row_in order bytes, left) (row, rest) next.2 in
      record {
        head = head.0;
        ends_long = ends.0.0;
        ends = ends.0.1;
        ids = ids.0;
        patterns = patterns.0;
        needles = needles.0;
        eoi = eqb-false eoi b.special.quit t.0;
        next = omega (arith, leb-true n max_id t.1, ap length same.1);
        is = sym same.0;
        behind = sym same.1 ∙ drop-drop (slice_index behind_patterns 0) 1 behind_patterns;
      }
