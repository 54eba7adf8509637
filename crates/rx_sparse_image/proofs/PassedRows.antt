-- Rows that were read one behind another: what is true of those that were passed, and of the reading that is left.
use Rattle.rx_spec.proofs.Prelude.{common_steps, [], ◌≡◌, ℕ, zero, suc, ◌+◌, ◌-◌, ◌<◌, ◌≤◌, Bool, false, ◌==◌, List}
use Rattle.rx_spec.proofs.Prelude.{◌∷◌, ◌++◌, length, drop, get_or, Result, Ok, Err, refl, ap, sym, ◌∙◌, replicate}
use Rattle.rx_spec.proofs.Prelude.{append_assoc, ⊎_elim, arith, list_any, cases_lt, drop-drop, get_or_append_left}
use Rattle.rx_spec.proofs.Prelude.{get_or_push, AreBytes, id_of}
use Rattle.std.proofs.lemmas.List.Concat.{flat_map-append}
use Rattle.rx_wire.specs.declared.order.Order.{Order}
use Rattle.rx_wire.specs.Kinds.{FailsBy, Kind, ◌>>=◌}
use Rattle.rx_sparse.specs.Facts.{length-offsets}
use Rattle.rx_sparse.specs.Rows.{Row, no_row, offsets, offsets_from, row_in, row_len, row_text, rows_in, rows_len}
use Rattle.rx_sparse.specs.Rows.{rows_text}
use Rattle.rx_sparse.proofs.RowTexts.{length-rows}
use Rattle.rx_sparse.proofs.RowPlaces.{length-rows_in}
use Rattle.rx_sparse_image.specs.declared.rows.Bounds.{Bounds}
use Rattle.rx_sparse_image.specs.RowSets.{begins_at}
use Rattle.rx_sparse_image.specs.Tested.{IsTestedRow}
use Rattle.rx_sparse_image.specs.Walks.{row_at, rows_at, rows_from}
use Rattle.rx_sparse_image.proofs.TestedRows.{IsPassedRow, passed_row}

-- ---- one row more

-- its offset is how many bytes those before it have
offsets-push : (at : ℕ) (rows : List Row) (row : Row)
    → offsets_from at (rows ++ row ∷ []) ≡ offsets_from at rows ++ (at + rows_len rows) ∷ []
unfolding offsets_from rows_len
offsets-push at [] row = let same : at ≡ at + 0 = omega arith in ap (λ n. n ∷ []) same
offsets-push at (r ∷ rows) row =
    ap (λ t. at ∷ t) (offsets-push (at + row_len r) rows row
    ∙ ap (λ n. offsets_from (at + row_len r) rows ++ n ∷ []) (omega arith))

-- the row behind those that were passed
rows_in-more : (order : Order) (count : ℕ) (bytes : List ℕ)
    → rows_in order (suc count) bytes
    ≡ rows_in order count bytes ++ row_in order (drop (rows_len (rows_in order count bytes)) bytes) ∷ []
unfolding rows_in rows_len
rows_in-more order zero bytes = refl
rows_in-more order (suc count) bytes =
    let len : ℕ = row_len (row_in order bytes) in
    let rest : List Row = rows_in order count (drop len bytes) in
    ap (λ t. row_in order bytes ∷ t)
    (rows_in-more order count (drop len bytes)
    ∙ ap (λ t. rest ++ row_in order t ∷ []) (drop-drop (rows_len rest) len bytes))

-- the same, as the code counts
rows_in-push : (order : Order) (count : ℕ) (bytes : List ℕ)
    → rows_in order (count + 1) bytes
    ≡ rows_in order count bytes ++ row_in order (drop (rows_len (rows_in order count bytes)) bytes) ∷ []
rows_in-push order count bytes = ap (λ n. rows_in order n bytes) (omega arith) ∙ rows_in-more order count bytes

-- ---- rows that were passed

pub record ArePassed (b : Bounds) (bytes : List ℕ) (count : ℕ) (rest : List ℕ) : Type 0 where
  pub stands : bytes ≡ rows_text b.order (rows_in b.order count bytes) ++ rest
  pub few : count + length rest ≤ length bytes
  -- each of them is tested
  pub tested : (i : ℕ) → i < count
      → IsTestedRow b (id_of (offsets (rows_in b.order count bytes)) i) (get_or (rows_in b.order count bytes) i no_row)
  pub read : rows_at b bytes
      ≡ (rows_from b (length bytes - count) rest >>= (λ more. Ok (rows_in b.order count bytes ++ more)))

-- at the start none was
pub none_passed : (b : Bounds) (bytes : List ℕ) → ArePassed b bytes 0 bytes
unfolding rows_in
none_passed b bytes = grind (arith, common_steps)

-- where a row and the rest begin
pub row_first : (b : Bounds) (most : ℕ) (bytes : List ℕ) → 0 < length bytes
    → rows_from b (suc most) bytes
    ≡ (row_at b (b.len - length bytes) bytes >>= (λ row. rows_from b most row.1 >>= (λ rows. Ok (row.0 ∷ rows))))
unfolding rows_from
row_first b most [] h = elim h [ ]
row_first b most (byte ∷ bytes) h = refl

-- steps group as they like
bind_assoc : {A B C : Type 0} (r : Result A Kind) (f : A → Result B Kind) (g : B → Result C Kind)
    → ((r >>= f) >>= g) ≡ (r >>= (λ x. f x >>= g))
bind_assoc (Ok x) f g = refl
bind_assoc (Err kind) f g = refl

-- a row before the rows of a step
bind_first : (r : Result (Row × List ℕ) Kind) (f : Row × List ℕ → Result (List Row) Kind)
    (g : List Row → Result (List Row) Kind)
    → ((r >>= (λ x. f x >>= (λ rows. Ok (x.0 ∷ rows)))) >>= g) ≡ (r >>= (λ x. f x >>= (λ rows. g (x.0 ∷ rows))))
bind_first (Ok x) f g = bind_assoc (f x) (λ rows. Ok (x.0 ∷ rows)) g
bind_first (Err kind) f g = refl

-- a row behind the rows before a step
bind_push : (r : Result (List Row) Kind) (rows : List Row) (row : Row)
    → (r >>= (λ more. Ok (rows ++ (row ∷ more)))) ≡ (r >>= (λ more. Ok ((rows ++ row ∷ []) ++ more)))
bind_push (Ok more) rows row = ap (λ t. Ok t) (sym (append_assoc rows (row ∷ []) more))
bind_push (Err kind) rows row = refl

-- one text and another, and the rest
behind_both : (first second rest : List ℕ) → first ++ (second ++ rest) ≡ (first ++ (second ++ [])) ++ rest
behind_both first second rest = grind (arith, common_steps)

module _ {b : Bounds} {bytes rest : List ℕ} {count : ℕ} (are : ArePassed b bytes count rest)
    (len : b.len ≡ length bytes) where
  abbrev rows : List Row
  rows = rows_in b.order count bytes

  -- their bytes and the rest are all bytes
  pub size : rows_len rows + length rest ≡ length bytes
  size = grind (arith, common_steps, length-rows)

  -- the rest lies behind their bytes
  pub rest_is : drop (rows_len rows) bytes ≡ rest
  rest_is = grind (arith, common_steps, length-rows)

  -- the reading that is left begins with a row
  module _ (some : 0 < length rest) where
    abbrev left : ℕ
    left = length bytes - (count + 1)

    -- the rows that are read are those passed, this one, and those of the rest
    turn : rows_at b bytes
        ≡ (row_at b (length bytes - length rest) rest
        >>= (λ row. rows_from b left row.1 >>= (λ more. Ok (rows ++ (row.0 ∷ more)))))
    turn =
        let few = are.few in
        let join : List Row → Result (List Row) Kind = λ more. Ok (rows ++ more) in
        let step : length bytes - count ≡ suc left = omega arith in
        let place : b.len - length rest ≡ length bytes - length rest = omega arith in
        are.read
        ∙ ap (λ n. rows_from b n rest >>= join) step
        ∙ ap (λ r. r >>= join) (row_first b left rest some)
        ∙ bind_first (row_at b (b.len - length rest) rest) (λ row. rows_from b left row.1) join
        ∙ ap (λ n. row_at b n rest >>= (λ row. rows_from b left row.1 >>= (λ more. Ok (rows ++ (row.0 ∷ more)))))
        place

    -- where the row fails its test, all reading does
    pub row_fails : {kind : Kind} → row_at b (length bytes - length rest) rest ≡ Err kind → rows_at b bytes ≡ Err kind
    row_fails e = turn ∙ ap (λ r. r >>= (λ row. rows_from b left row.1 >>= (λ more. Ok (rows ++ (row.0 ∷ more))))) e

    module _ {behind : List ℕ} (bytes_rest : AreBytes rest)
        (e : row_at b (length bytes - length rest) rest ≡ Ok (row_in b.order rest, behind)) where
      abbrev at : ℕ
      at = length bytes - length rest

      abbrev row : Row
      row = row_in b.order rest

      -- the row begins behind those passed
      at_is : rows_len rows ≡ at
      at_is = omega (arith, size)

      -- what is true of it
      passed : IsPassedRow b at rest row behind
      passed = passed_row b at rest row behind bytes_rest e

      -- it is one row more
      rows_are : rows_in b.order (count + 1) bytes ≡ rows ++ row ∷ []
      rows_are = rows_in-push b.order count bytes ∙ ap (λ t. rows ++ row_in b.order t ∷ []) rest_is

      -- the offset of the row is where it was read
      pub offsets_are : offsets (rows_in b.order (count + 1) bytes) ≡ offsets rows ++ at ∷ []
      offsets_are =
          let same : 0 + rows_len rows ≡ at = omega (arith, at_is) in
          ap offsets rows_are ∙ offsets-push 0 rows row ∙ ap (λ n. offsets rows ++ n ∷ []) same

      tested : (i : ℕ) → i < count + 1
          → IsTestedRow b (id_of (offsets rows ++ at ∷ []) i) (get_or (rows ++ row ∷ []) i no_row)
      tested i h =
          let n = length-rows_in b.order count bytes in
          let m = length-offsets 0 rows in
          ⊎_elim
          (λ (low : i < count).
          rw (
            get_or_append_left (offsets rows) (at ∷ []) 0 i (omega arith),
            get_or_append_left rows (row ∷ []) no_row i (omega arith),
          )
          (are.tested i low))
          (λ (high : count ≤ i).
          rw (
            get_or_push (offsets rows) at 0 i (omega arith),
            get_or_push rows row no_row i (omega arith),
          )
          (passed.tested (omega arith)))
          (cases_lt i count)

      -- it was passed too
      pub row_passed : ArePassed b bytes (count + 1) behind
      row_passed = record {
        stands =
            are.stands
            ∙ ap (λ t. rows_text b.order rows ++ t) passed.stands
            ∙ behind_both (rows_text b.order rows) (row_text b.order row) behind
            ∙ ap (λ t. t ++ behind)
            (sym (ap (rows_text b.order) rows_are ∙ flat_map-append (row_text b.order) rows (row ∷ [])));
        few = let few = are.few in omega (arith, passed.size);
        tested = rw (offsets_are, rows_are) tested;
        read =
            turn
            ∙ ap (λ r. r >>= (λ x. rows_from b left x.1 >>= (λ more. Ok (rows ++ (x.0 ∷ more))))) e
            ∙ bind_push (rows_from b left behind) rows row
            ∙ ap (λ rs. rows_from b left behind >>= (λ more. Ok (rs ++ more))) (sym rows_are);
      }

      -- the rest is shorter
      pub behind_is : behind ≡ drop (row_len row) rest
      behind_is = passed.behind

      pub shorter : length behind < length rest
      shorter = omega (arith, passed.size)

-- ---- all rows

-- no rows are read of no bytes
pub none_left : (b : Bounds) (most : ℕ) → rows_from b most [] ≡ Ok []
unfolding rows_from
none_left b zero = refl
none_left b (suc most) = refl

module _ {b : Bounds} {bytes rest : List ℕ} {count : ℕ} (are : ArePassed b bytes count rest)
    (len : b.len ≡ length bytes) (none : length rest ≡ 0) where
  abbrev all : List Row
  all = rows_in b.order count bytes

-- ---- marks

-- a set without a mark
no_mark : (len k : ℕ) → begins_at (replicate len false) k ≡ false
no_mark zero k = refl
no_mark (suc len) zero = refl
no_mark (suc len) (suc k) = no_mark len k

-- no place is marked at the start
pub marks_none : (order : Order) (bytes : List ℕ) (begins : List Bool) (len : ℕ) → begins ≡ replicate len false
    → (k : ℕ) → begins_at begins k ≡ list_any (λ place. place == k) (offsets (rows_in order 0 bytes))
unfolding rows_in offsets_from
marks_none order bytes begins len e k = ap (λ t. begins_at t k) e ∙ no_mark len k

-- ---- failures

-- what a call gives that takes memory, where it is known
pub fails_by : {Y : Type 0} (kind : Kind) (read : Result Y Kind) → read ≡ Err kind → FailsBy kind read
fails_by Kind.Generic read e = e
fails_by Kind.BufferTooSmall read e = e
fails_by (Kind.VersionMismatch expected found) read e = e
fails_by (Kind.EndianMismatch expected found) read e = e
fails_by (Kind.LabelMismatch expected) read e = e
fails_by (Kind.PatternID attempted) read e = e
fails_by (Kind.StateID attempted) read e = e
fails_by Kind.Memory read e = tt
