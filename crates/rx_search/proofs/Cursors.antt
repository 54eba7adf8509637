-- What a search knows of its table: a cursor keeps the table that it was made for, and so its rows and their ids.
use Rattle.rx_spec.proofs.Prelude.{arith, rules, ◌≡◌, ℕ, ◌<◌, Bool, true, Some, Ok, List, length, slice_index, sym, ◌∙◌}
use Rattle.rx_spec.proofs.Prelude.{subst, common_steps, AreIds, row_of, Query, Table, IsSound, is_match}
use Rattle.rx_spec.specs.declared.Direction.{Direction}
use Rattle.rx_search.specs.Labels.{patterns_of}
use Rattle.rx_search.specs.Needles.{Skips}
use Rattle.rx_search.specs.Starts.{IsId}
use Rattle.rx_search.specs.Walks.{units_left, units_after, next_stop, Stop, StopsAt, IsMet}
use Rattle.rx_search.proofs.Standing.{Standing, standing}
use Rattle.rx_search.proofs.Walks.{Turn}
use Rattle.rx_search.proofs.Halves.{some_pattern}

-- a sound table with its ids
pub record Held (t : Table) (ids : List ℕ) : Type 0 where
  pub sound : IsSound t
  pub are : AreIds t.size ids

pub held_row : {t : Table} {ids : List ℕ} → Held t ids → (id : ℕ) → IsId ids id → Standing t (row_of ids id)
held_row h id is = standing id h.sound h.are is

-- by the laws of the table's type
pub held_by : {A : Type 0} {table : A → Table} {ids : A → List ℕ} {Sound : A → Type 0}
    → ((x : A) → Sound x → IsSound (table x)) → ((x : A) → AreIds (table x).size (ids x)) → (x : A) → Sound x
    → Held (table x) (ids x)
held_by sound are x is = record { sound = sound x is; are = are x }

module _ {A : Type 0} (table : A → Table) (ids : A → List ℕ) where
  -- what is known at a value that is the same
  pub at_same : {first other : A} (P : Table → List ℕ → Type 0) → other ≡ first → P (table other) (ids other)
      → P (table first) (ids first)
  at_same P same there = subst (λ (x : A). P (table x) (ids x)) same there

  pub row_at : {first other : A} (P : Table → ℕ → Type 0) (id : ℕ) → other ≡ first
      → P (table other) (row_of (ids other) id) → P (table first) (row_of (ids first) id)
  row_at P id same there = at_same (λ t i. P t (row_of i id)) same there

  -- what a cursor's test tells of its row
  pub known : {first other : A} (test : Table → ℕ → Bool) (id : ℕ) {told value : Bool} → other ≡ first
      → told ≡ test (table other) (row_of (ids other) id) → told ≡ value
      → test (table first) (row_of (ids first) id) ≡ value
  known test id {told} {value} same tells is = row_at (λ t row. test t row ≡ value) id same (sym tells ∙ is)

  pub skips_at : {first other : A} {direction : Direction} {q : Query} (id : ℕ) {from from' to : ℕ} → other ≡ first
      → from' ≡ from → Skips (table other) direction q (row_of (ids other) id) from' to
      → Skips (table first) direction q (row_of (ids first) id) from to
  skips_at {first} {other} {direction} {q} id {from} {from'} {to} same same_from skips = grind (arith, common_steps)

  -- a turn of a cursor
  pub turned : {first here there : A} → Held (table first) (ids first) → (id next : ℕ) {unit : ℕ} → here ≡ first
      → there ≡ first → IsId (ids there) next
      → row_of (ids here) next ≡ (table here).machine.next (row_of (ids here) id) unit
      → Turn (table first) (row_of (ids first) id) unit (row_of (ids first) next)
  turned held id next {unit} same same_next is leads = grind (arith, common_steps)

  -- A walk from a row and an offset has led a cursor to the id of a match row, and to an offset.
  pub record Reached (first there : A) (direction : Direction) (q : Query) (row from next offset : ℕ) : Type 0 where
    pub stops : next_stop (table first).machine direction (row_of (ids first) row) from (units_left direction q from)
        ≡ Stop.Match (row_of (ids first) next) offset (units_after direction q offset)
    pub met : IsMet (table first) direction q from (row_of (ids first) next) offset
    pub standing : Standing (table first) (row_of (ids first) next)
    pub is_id : IsId (ids first) next
    pub same : there ≡ first

  pub reached : {first here there : A} {direction : Direction} {q : Query} {row from next offset : ℕ}
      → Held (table first) (ids first) → here ≡ first → there ≡ first → IsId (ids there) next
      → StopsAt (table here) direction q from (row_of (ids here) next)
      (next_stop (table here).machine direction (row_of (ids here) row) from (units_left direction q from))
      (Ok (Some offset))
      → Reached first there direction q row from next offset
  reached {first} {here} {there} {direction} {q} {row} {from} {next} {offset} held same same_next is stops =
      search rules

  module _ {first there : A} {direction : Direction} {q : Query} {row from next offset : ℕ}
      (r : Reached first there direction q row from next offset) where
    pub some_told : 0 < length (patterns_of (table first) (row_of (ids first) next))
    some_told = some_pattern r.standing r.met.is_match

    -- the same at the cursor's own table
    pub match_there : is_match (table there) (row_of (ids there) next) ≡ true
    match_there = row_at (λ t row. is_match t row ≡ true) next (sym r.same) r.met.is_match

    pub some_there : 0 < length (patterns_of (table there) (row_of (ids there) next))
    some_there = row_at (λ t row. 0 < length (patterns_of t row)) next (sym r.same) some_told

    pub first_pattern : {k : ℕ} → k ≡ slice_index (patterns_of (table there) (row_of (ids there) next)) 0
        → k ≡ slice_index (patterns_of (table first) (row_of (ids first) next)) 0
    first_pattern {k} tells = row_at (λ t row. k ≡ slice_index (patterns_of t row) 0) next r.same tells
