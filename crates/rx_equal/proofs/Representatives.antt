-- Each unit leads as one of the representatives does.
use Rattle.rx_spec.proofs.Prelude.{common_steps, ℕ, ◌≡◌, ◌+◌, ◌-◌, ◌<◌, ◌≤◌, List, [], ◌∷◌, ◌++◌, sym, subst, arith, ap}
use Rattle.rx_spec.proofs.Prelude.{ap₂, Some, length, All-push, Contains-push, All, Contains, slice_get, Table, AreIds}
use Rattle.rx_spec.specs.declared.Unit.{Unit}
use Rattle.rx_base.specs.Unit.{unit_number}
use Rattle.rx_search.specs.Classes.{LeadsAsPrevious}
use Rattle.rx_equal.specs.Evidence.{RowPair, next_pair}
use Rattle.rx_equal.specs.Classes.{IsRepresented, Represent}
use Rattle.rx_equal.specs.Places.{HaveNexts}
use Rattle.rx_equal.proofs.Tests.{EachBelow, below_more, each_contained}
use Rattle.rx_equal.specs.Pairs.{IsPairOf, rows_of}
use Rattle.rx_equal.specs.declared.pairs.Pair.{Pair}
use Rattle.rx_lemmas.proofs.ReadUnits.{All-got}

-- the units below a number have representatives
pub record RepresentBelow (t u : Table) (units : List Unit) (n : ℕ) : Type 0 where
  pub are_units : All (λ unit. unit_number unit < 257) units
  pub each : (unit : ℕ) → unit < n → IsRepresented t u units unit

module _ {t u : Table} where
  stays : (units : List Unit) (v : Unit) (unit : ℕ) → IsRepresented t u units unit
      → IsRepresented t u (units ++ v ∷ []) unit
  stays units v unit r = grind (arith, common_steps)

  -- a unit that is listed represents itself
  pub listed_more : (units : List Unit) (n : ℕ) (v : Unit) → unit_number v ≡ n → n < 257
      → RepresentBelow t u units n → RepresentBelow t u (units ++ v ∷ []) (n + 1)
  listed_more units n v is small r = record {
    are_units = All-push (λ unit. unit_number unit < 257) units v r.are_units (omega arith);
    each = below_more (IsRepresented t u (units ++ v ∷ [])) n (λ k h. stays units v k (r.each k h))
        (record {
          one = v;
          listed = Contains-push units v;
          alike = record {
            first = λ row h. ap (t.machine.next row) (sym is);
            second = λ row h. ap (u.machine.next row) (sym is);
          };
        });
  }

  -- a byte that leads as the one before it is represented as that is
  pub previous_more : (units : List Unit) (n : ℕ) → LeadsAsPrevious t n → LeadsAsPrevious u n
      → RepresentBelow t u units n → RepresentBelow t u units (n + 1)
  previous_more units n first second r =
      let before = r.each (n - 1) (let p = first.positive in omega arith) in
      grind (arith, common_steps)

  pub all_represented : (units : List Unit) (n : ℕ) → 257 ≤ n → RepresentBelow t u units n → Represent t u units
  all_represented units n h r = grind (arith, common_steps)

  pub unit_of : {units : List Unit} {v : Unit} → Represent t u units → (i : ℕ) → slice_get units i ≡ Some v
      → unit_number v < 257
  unit_of {units} r i there = All-got (λ v. unit_number v < 257) units i _ r.are_units there

  -- where representatives lead from a pair, all units do
  pub nexts_by : {units : List Unit} {n : ℕ} {ids others : List ℕ} {p : Pair} (pairs : List RowPair)
      → Represent t u units → AreIds t.size ids → AreIds u.size others → IsPairOf ids others p
      → EachBelow (λ v. Contains pairs (next_pair t u (rows_of ids others p) (unit_number v))) units n
      → length units ≤ n → HaveNexts t u pairs (rows_of ids others p)
  nexts_by {units} {n} {ids} {others} {p} pairs r are others_are is known past unit h =
      let q = rows_of ids others p in
      let one = r.each unit h in
      let first = one.alike.first q.row (omega arith) in
      let second = one.alike.second q.other (omega arith) in
      subst (Contains pairs) (sym (ap₂ (λ x y. record { row = x; other = y }) first second))
      (each_contained (λ v. Contains pairs (next_pair t u q (unit_number v))) units known past one.one one.listed)
