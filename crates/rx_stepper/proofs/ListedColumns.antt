-- Where the columns of sets stand: more columns behind change no span.
use Rattle.rx_spec.proofs.Prelude.{common_steps, ◌≡◌, ℕ, ◌<◌, List, [], ◌∷◌, ◌++◌, length, refl, ap, sym, ◌∙◌, arith}
use Rattle.rx_spec.proofs.Prelude.{slice_index, filter, All, range_with_len, contains, All-filter}
use Rattle.rx_stepper.proofs.Prelude.{AreListed, Grown, IsListed, ListedSet, read_by}
use Rattle.rx_stepper.proofs.ReadColumns.{range_few}
use Rattle.rx_lemmas.proofs.ByteSets.{contains-empty}

pub read_few : (set : ℕ) (units : List ℕ) → All (λ column. column < length units) (read_by set units)
read_few set units =
    All-filter (λ c. contains set (slice_index units c)) (λ c. c < length units) (range_with_len 0 (length units))
    (range_few (length units))

-- the columns of a set were added
pub set_added : (set : ℕ) (units : List ℕ) {count : ℕ} {before after : List ℕ} → length units ≡ count
    → after ≡ before ++ read_by set units → Grown count before after
set_added set units {count} {before} {after} len e = grind (arith, common_steps, read_few)

-- they are listed from now on
pub set_listed : (set : ℕ) (units before : List ℕ) {after : List ℕ} {start stop : ℕ}
    → after ≡ before ++ read_by set units → start ≡ length before → stop ≡ length after
    → IsListed units after set start stop
set_listed set units before {after} {start} {stop} e begins ends = grind (arith, common_steps)

-- what was listed before is listed still
pub listed_still : {units : List ℕ} {count : ℕ} {before after : List ℕ} (sets : List ListedSet)
    → Grown count before after → AreListed units before sets → AreListed units after sets
listed_still sets grown are = grind (arith, common_steps)

-- no column's unit is in the empty set
none_read : (units columns : List ℕ) → filter (λ column. contains 0 (slice_index units column)) columns ≡ []
none_read units [] = refl
none_read units (column ∷ columns) = rw (contains-empty (slice_index units column)) (none_read units columns)

pub none_listed : (units : List ℕ) {set : ℕ} → set ≡ 0 → IsListed units [] set 0 0
none_listed units {set} empty = record {
  order = omega arith;
  within = omega arith;
  holds = sym (ap (λ s. read_by s units) empty ∙ none_read units (range_with_len 0 (length units)));
}
