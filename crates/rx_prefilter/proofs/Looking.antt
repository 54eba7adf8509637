-- Walks from the row of a literal: they tell nothing before the literal was read.
use Rattle.rx_spec.proofs.Prelude.{common_steps, ◌≡◌, ◌≢◌, ℕ, suc, zero, ◌+◌, ◌-◌, ◌<◌, ◌≤◌, Bool, Ok, None, List, []}
use Rattle.rx_spec.proofs.Prelude.{◌∷◌, length, slice_index, ap, refl, sym, ◌∙◌, subst, ⊎_elim, arith, cases_lt}
use Rattle.rx_spec.proofs.Prelude.{AreBytes, eoi, HalfAnswer, next_offset, walk, IsWord, Label, Query, IsSound, Table}
use Rattle.rx_spec.specs.declared.Direction.{Direction}
use Rattle.rx_lemmas.proofs.ReadUnits.{units_word}
use Rattle.rx_lemmas.proofs.Walking.{walk-cons, walk-nil}
use Rattle.rx_lemmas.proofs.Words.{IsWord-head}
use Rattle.rx_search.specs.Walks.{last_offset, rest, unit_ahead, units_left}
use Rattle.rx_search.proofs.Halves.{walk_stops}
use Rattle.rx_search.proofs.Standing.{Standing}
use Rattle.rx_search.proofs.Walks.{IsQuiet, Place, Step, byte_there, step_quiet, units_left-last}
use Rattle.rx_prefilter.specs.Literals.{IsLiteral}
use Rattle.rx_prefilter.proofs.Begun.{Begun, MostBegun, begun_more, begun_on, none_begun}

-- a walk over what is left of a span, forward
abbrev pub walk_from : Table → Query → (row offset : ℕ) → HalfAnswer
walk_from t q row offset =
    walk t.machine Direction.Forward q.earliest row offset None (units_left Direction.Forward q offset)

-- one byte on, to a row that tells nothing
pub walk_on : {t : Table} {direction : Direction} {q : Query} {row offset next : ℕ} → Step t direction q row offset next
    → IsQuiet t next
    → walk t.machine direction q.earliest row offset None (units_left direction q offset)
    ≡ walk t.machine direction q.earliest next (next_offset direction offset) None
    (units_left direction q (next_offset direction offset))
walk_on {t} {direction} {q} {row} {offset} {next} step quiet = grind (arith, common_steps, walk_stops, step_quiet)

-- the last unit, if it leads to a row that tells nothing
pub walk_ends : (t : Table) (row unit offset : ℕ) (earliest : Bool)
    → t.machine.label (t.machine.next row unit) ≡ Label.Plain
    → walk t.machine Direction.Forward earliest row offset None (unit ∷ []) ≡ Ok None
walk_ends t row unit offset earliest plain = grind (arith, common_steps, walk-cons, walk-nil)

-- where a walk stands that hasn't read the literal yet
pub record IsBefore (t : Table) (literal : List ℕ) (at : ℕ → ℕ) (q : Query) (from to : ℕ) : Type 0 where
  pub k : ℕ
  pub most : MostBegun q.haystack literal from to k
  pub walked : walk_from t q (at 0) from ≡ walk_from t q (at k) to

module _ {t : Table} {literal : List ℕ} {at : ℕ → ℕ} (sound : IsSound t) (is : IsLiteral t literal at)
    (below : (k : ℕ) → k ≤ length literal → at k < t.size) where
  stands : (k : ℕ) → k ≤ length literal → Standing t (at k)
  stands k h = record { sound = sound; below = below k h }

  module _ {q : Query} (bytes : AreBytes q.haystack) {from : ℕ} (p : Place q from) where
    -- as long as the literal ends nowhere
    pub before : (d to : ℕ) → from + d ≡ to → to ≤ q.end
        → ((end : ℕ) → end ≤ to → Begun q.haystack literal from end (length literal) → ⊥)
        → IsBefore t literal at q from to
    before zero to e high none =
        let here : from ≡ to = omega arith in
        subst (IsBefore t literal at q from) here
        (record { k = 0; most = none_begun q.haystack literal from is.some; walked = refl })
    before (suc d) to e high none =
        let last = to - 1 in
        let there : last + 1 ≡ to = omega arith in
        let b = before d last (omega arith) (omega arith) (λ end h. none end (omega arith)) in
        subst (IsBefore t literal at q from) there
        (step last b (omega arith) (omega arith) (none (last + 1) (omega arith)))
      where
        step : (o : ℕ) → IsBefore t literal at q from o → o < q.end → from ≤ o
            → (Begun q.haystack literal from (o + 1) (length literal) → ⊥) → IsBefore t literal at q from (o + 1)
        step o b more low none =
            let more_left : o ≢ last_offset Direction.Forward q = λ over. omega arith in
            let first = p.in_span.low in
            let place : Place q o = record {
              fits = p.fits;
              in_span = record { low = omega arith; high = omega arith };
            } in
            let byte = slice_index q.haystack o in
            let l = is.leads b.k byte b.most.fewer (byte_there Direction.Forward place bytes more_left) in
            let on = begun_on q.haystack literal from b.most refl l.is_longest in
            let fewer : l.len < length literal =
            ⊎_elim (λ (low : l.len < length literal). low)
            (λ (high : length literal ≤ l.len).
            let within = l.is_longest.within in
            let all : l.len ≡ length literal = omega arith in
            absurd (none (subst (Begun q.haystack literal from (o + 1)) all on)))
            (cases_lt l.len (length literal)) in
            let row = stands l.len l.is_longest.within in
            record {
              k = l.len;
              most = begun_more q.haystack literal from b.most refl l.is_longest fewer;
              walked =
                  b.walked
                  ∙ walk_on
                  (record { place = place; more = more_left; turn = record { leads = sym l.there; standing = row } })
                  (record { plain = is.plain l.len l.is_longest.within; alive = is.alive l.len fewer });
            }

    -- up to the last byte of the first one
    pub found : (place : ℕ) → from + place + length literal ≤ q.end
        → Begun q.haystack literal from (from + place + length literal - 1) (length literal - 1)
        → ((end : ℕ) → end < from + place + length literal → Begun q.haystack literal from end (length literal) → ⊥)
        → walk_from t q (at 0) from ≡ walk_from t q (at (length literal - 1)) (from + place + length literal - 1)
    found place high begun none =
        let some = is.some in
        let to = from + place + length literal - 1 in
        let b = before (place + length literal - 1) to (omega arith) (omega arith)
        (λ end h. none end (omega arith)) in
        let fewer = b.most.fewer in
        let most = b.most.most (length literal - 1) (omega arith) begun in
        let all : b.k ≡ length literal - 1 = omega arith in
        b.walked ∙ ap (λ (k : ℕ). walk_from t q (at k) to) all

    -- if it ends nowhere in the span
    pub nowhere : ((end : ℕ) → end ≤ q.end → Begun q.haystack literal from end (length literal) → ⊥)
        → walk_from t q (at 0) from ≡ Ok None
    nowhere none =
        let low = p.in_span.low in
        let high = p.in_span.high in
        let b = before (q.end - from) q.end (omega arith) (omega arith) none in
        let unit = unit_ahead Direction.Forward q.haystack q.end in
        let last = units_left-last Direction.Forward q (omega (arith, low, high)) p.fits in
        let word = subst IsWord last (units_word Direction.Forward (rest Direction.Forward q q.end) bytes) in
        b.walked
        ∙ ap (walk t.machine Direction.Forward q.earliest (at b.k) q.end None) last
        ∙ walk_ends t (at b.k) unit q.end q.earliest (silent b.k b.most.fewer unit (IsWord-head unit [] word))
      where
        silent : (k : ℕ) → k < length literal → (unit : ℕ) → unit < 257
            → t.machine.label (t.machine.next (at k) unit) ≡ Label.Plain
        silent k h unit below =
            ⊎_elim
            (λ (low : unit < 256).
            let l = is.leads k unit h low in ap t.machine.label l.there ∙ is.plain l.len l.is_longest.within)
            (λ (high : 256 ≤ unit).
            let over : unit ≡ eoi = omega arith in
            ap (λ (u : ℕ). t.machine.label (t.machine.next (at k) u)) over ∙ is.silent k h)
            (cases_lt unit 256)
