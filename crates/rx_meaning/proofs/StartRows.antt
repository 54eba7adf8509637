-- What the start rows of an NFA give: each pattern's entry, the start of all, and the unanchored one.
use Rattle.rx_spec.proofs.Prelude.{common_steps, ◌≡◌, ℕ, zero, suc, ◌+◌, ◌<◌, ◌≤◌, true, false, if◌then◌else◌, Option}
use Rattle.rx_spec.proofs.Prelude.{None, List, [], ◌∷◌, length, slice_get, refl, ap, sym, ◌∙◌, arith, agree_below_at}
use Rattle.rx_spec.proofs.Prelude.{All-head, All-tail, slice_get_past, slice_get-get_or, All, get_or, option_or}
use Rattle.rx_spec.proofs.Prelude.{option_and_then, range_with_len, AreBytes, contains, all_bytes, Expression}
use Rattle.rx_spec.proofs.Prelude.{IsLoopSafe, ends, first_of, Row, compile, patterns_from, start_of_all, lead_in}
use Rattle.rx_lemmas.proofs.RowPlaces.{Stands, stands-left, stands-right}
use Rattle.rx_meaning.proofs.FirstSuccess.{first_of-alike, first_of-cons, first_of-nil, first_of-single}
use Rattle.rx_meaning.proofs.Solution.{Valued, read_by, given, given_as}
use Rattle.rx_meaning.proofs.Parts.{compile_means}

-- every byte is in the set of all bytes
any_byte : (b : ℕ) → b < 256 → contains all_bytes b ≡ true
any_byte b h = agree_below_at (contains all_bytes) (λ x. true) 256 b refl h

-- as many entries as patterns
pub entries_count : (base k : ℕ) (es : List Expression) → length (patterns_from base k es).entries ≡ length es
unfolding patterns_from
entries_count base k [] = refl
entries_count base k (e ∷ es) = ap suc (entries_count (base + 1 + length (compile e (base + 1) base).rows) (k + 1) es)

module _ {V : Type 0} (x : Valued V) where
  -- the worth of a pattern at a place: of its preferred end
  abbrev pub pattern_worth : ℕ → ℕ → Expression → Option V
  pattern_worth i k e = first_of (λ j. x.worth k j) (ends x.reading e i)

  -- a pattern's entry gives its worth
  pub entry_gives : (es : List Expression) → All IsLoopSafe es → (base k : ℕ)
      → Stands x.rows base (patterns_from base k es).rows → (i : ℕ) → i ≤ length x.reading.units → (n : ℕ)
      → option_and_then (λ q. given x q i) (slice_get (patterns_from base k es).entries n)
      ≡ option_and_then (pattern_worth i (k + n)) (slice_get es n)
  unfolding patterns_from
  entry_gives [] safe base k stands i within n = refl
  entry_gives (e ∷ es) safe base k stands i within zero =
      let part = compile e (base + 1) base in
      let others = patterns_from (base + 1 + length part.rows) (k + 1) es in
      let front = stands-left x.rows base (Row.Match k ∷ part.rows) others.rows stands in
      let means = compile_means x e (All-head IsLoopSafe e es safe) in
      let here : k ≡ k + 0 = omega arith in
      grind (arith, common_steps, first_of-alike, given, given_as)
  entry_gives (e ∷ es) safe base k stands i within (suc n) =
      grind (arith, common_steps, stands-right, All-tail, entry_gives es (All-tail IsLoopSafe e es safe))

  pub start_of_all_gives : (entries : List ℕ) (base : ℕ) → Stands x.rows base (start_of_all base entries).rows → (i : ℕ)
      → given x (start_of_all base entries).entry i ≡ first_of (λ q. given x q i) entries
  unfolding start_of_all
  start_of_all_gives [] base stands i = grind (arith, common_steps, given_as, first_of-nil)
  start_of_all_gives (entry ∷ []) base stands i = sym (first_of-single (λ q. given x q i) entry)
  start_of_all_gives (entry ∷ (next ∷ entries)) base stands i =
      let others = start_of_all base (next ∷ entries) in
      let last : List Row = Row.Split entry others.entry ∷ [] in
      given_as x (base + length others.rows) i (Row.Split entry others.entry)
      (stands-right x.rows base others.rows last stands).0
      ∙ ap (option_or (given x entry i))
      (start_of_all_gives (next ∷ entries) base (stands-left x.rows base others.rows last stands) i)
      ∙ sym (first_of-cons (λ q. given x q i) entry (next ∷ entries))

  -- the unanchored start gives what the anchored one does, here or further on
  pub lead_in_gives : (base anchored : ℕ) → Stands x.rows base (lead_in false base anchored).rows
      → AreBytes x.reading.units → (m i : ℕ) → i + m ≡ length x.reading.units
      → given x base i ≡ first_of (λ p. given x anchored p) (range_with_len i (suc m))
  unfolding first_of
  lead_in_gives base anchored stands bytes zero i e = grind (arith, common_steps, given_as, slice_get_past)
  lead_in_gives base anchored stands bytes (suc m) i e =
      let byte = get_or x.reading.units i 0 in
      let within : i < length x.reading.units = omega arith in
      given_as x base i (Row.Split anchored (base + 1)) stands.0
      ∙ ap (option_or (given x anchored i))
      (given_as x (base + 1) i (Row.Bytes all_bytes base) stands.1.0
      ∙ ap (λ b. read_by all_bytes b (given x base (i + 1))) (slice_get-get_or x.reading.units i 0 within)
      ∙ ap (λ v. if v then given x base (i + 1) else None) (any_byte byte (bytes i 0 within))
      ∙ lead_in_gives base anchored stands bytes m (i + 1) (omega arith))
