-- Bytes of one class lead every node to one node, and so do units of one column.
use Rattle.rx_spec.proofs.Prelude.{rules, ◌≡◌, ℕ, zero, suc, ◌+◌, ◌*◌, ◌<◌, ◌≤◌, ◌==◌, ◌&&◌, ◌||◌, ⊎_elim, Bool, true}
use Rattle.rx_spec.proofs.Prelude.{false, if◌then◌else◌, List, [], ◌∷◌, ◌++◌, length, refl, ap, ap₂, sym, ◌∙◌, arith}
use Rattle.rx_spec.proofs.Prelude.{Some, common_steps, list_any, flat_map, or_parts, cases_eq, cases_lt, contains}
use Rattle.rx_spec.proofs.Prelude.{differ, Facts, facts_of, unit_facts, both, either_of, holds_read, facts_read}
use Rattle.rx_spec.proofs.Prelude.{row_reads, facts_kept, Row, Nfa, class_by, column_by, parts, ends_class, row_at}
use Rattle.rx_spec.proofs.Prelude.{Tested, reach, reach_by, closure, firsts, State, state_at, holds_before}
use Rattle.rx_spec.proofs.Prelude.{decided_rows, pattern_of, target, step, Build, Node, next_node}
use Rattle.std.specs.List.{AllByRecursion as Every}
use Rattle.rx_spec.specs.Bytes.{is_word}
use Rattle.rx_spec.specs.Classes.{facts_part, row_parts, parts_next}
use Rattle.rx_spec.specs.States.{context_of_rows}
use Rattle.rx_spec.specs.declared.Direction.{Direction}
use Rattle.rx_spec.specs.declared.Look.{Look}
use Rattle.rx_spec.specs.declared.MatchKind.{MatchKind}
use Rattle.rx_lemmas.proofs.ClassNumbers.{none_ends, class_below, class_of_all}
use Rattle.rx_lemmas.proofs.Every.{flat_map-alike, every-weaker}

-- ---- what is the same of two bytes of one class

-- what a row reads of both
abbrev RowAlike : ℕ → ℕ → ℕ → Row → Type 0
RowAlike t a b (Row.Bytes set next) = contains set a ≡ contains set b
RowAlike t a b (Row.Look look next) =
    both (facts_read look) (facts_of t (Some a)) ≡ both (facts_read look) (facts_of t (Some b))
RowAlike t a b _ = Unit {0}

pub same_tests : (x y : Bool) → differ x y ≡ false → x ≡ y
same_tests true true e = refl
same_tests true false e = absurd (cc)
same_tests false true e = absurd (cc)
same_tests false false e = refl

-- a test that tells no byte from the next one between them
run_alike : (test : ℕ → Bool) (a b : ℕ) → a ≤ b → ((x : ℕ) → a ≤ x → x < b → parts test x (x + 1) ≡ false)
    → test a ≡ test b
run_alike test a zero h none = let e : a ≡ 0 = omega arith in ap test e
run_alike test a (suc b) h none =
    ⊎_elim
    (λ (e : a ≡ suc b). ap test e)
    (λ (ne : a ≡ suc b → ⊥).
    let next : b + 1 ≡ suc b = omega arith in
    run_alike test a b (omega arith) (λ x low high. none x low (omega arith))
    ∙ same_tests (test b) (test (b + 1)) (none b (omega arith) (omega arith)) ∙ ap test next)
    (cases_eq a (suc b))

-- a fact that is read, and one that isn't
fact_alike : (read : Bool) (test : ℕ → Bool) (a b : ℕ) → a ≤ b
    → ((x : ℕ) → a ≤ x → x < b → (read && parts test x (x + 1)) ≡ false) → (read && test a) ≡ (read && test b)
fact_alike true test a b h none = run_alike test a b h none
fact_alike false test a b h none = refl

-- none of four tests, joined as they are for the facts of a byte
none_of_four : (a b c d : Bool) → (a || b || c || d) ≡ false
    → (a ≡ false) × (b ≡ false) × (c ≡ false) × (d ≡ false)
none_of_four a b c d e = grind (arith, common_steps)

abbrev ends_of_facts : ℕ → Facts → ℕ → (Bool × Bool × Bool × Bool)
ends_of_facts t read x = (
  read.line_terminator && parts (λ b. b == t) x (x + 1),
  read.lf && parts (λ b. b == 10) x (x + 1),
  read.cr && parts (λ b. b == 13) x (x + 1),
  read.word && parts is_word x (x + 1),
)

facts_alike : (t : ℕ) (read : Facts) (a b : ℕ) → a ≤ b
    → ((x : ℕ) → a ≤ x → x < b → facts_part t read x (x + 1) ≡ false)
    → both read (facts_of t (Some a)) ≡ both read (facts_of t (Some b))
facts_alike t read a b h none =
    let four = λ (x : ℕ) (low : a ≤ x) (high : x < b).
    let e = ends_of_facts t read x in none_of_four e.0 e.1 e.2 e.3 (none x low high) in
    let terminator = fact_alike read.line_terminator (λ x. x == t) a b h (λ x low high. (four x low high).0) in
    let lf = fact_alike read.lf (λ x. x == 10) a b h (λ x low high. (four x low high).1) in
    let cr = fact_alike read.cr (λ x. x == 13) a b h (λ x low high. (four x low high).2) in
    let word = fact_alike read.word is_word a b h (λ x low high. (four x low high).3) in
    cc

row_alike : (t a b : ℕ) → a ≤ b → (row : Row) → ((x : ℕ) → a ≤ x → x < b → row_parts t x (x + 1) row ≡ false)
    → RowAlike t a b row
row_alike t a b h (Row.Bytes set next) none = run_alike (contains set) a b h none
row_alike t a b h (Row.Look look next) none = facts_alike t (facts_read look) a b h none
row_alike t a b h _ none = tt

rows_alike : (t a b : ℕ) → a ≤ b → (rows : List Row)
    → ((x : ℕ) → a ≤ x → x < b → list_any (row_parts t x (x + 1)) rows ≡ false) → Every (RowAlike t a b) rows
rows_alike t a b h [] none = tt
rows_alike t a b h (row ∷ rows) none =
    let each = λ (x : ℕ) (low : a ≤ x) (high : x < b).
    or_parts (row_parts t x (x + 1) row) (list_any (row_parts t x (x + 1)) rows) (none x low high) in (
      row_alike t a b h row (λ x low high. (each x low high).0),
      rows_alike t a b h rows (λ x low high. (each x low high).1),
    )

-- Two bytes that nothing in an NFA tells apart.
pub record AreAlike (nfa : Nfa) (quit a b : ℕ) : Type 0 where
  pub quits : contains quit a ≡ contains quit b
  pub rows : Every (RowAlike nfa.line_terminator a b) nfa.rows

alike_up : (nfa : Nfa) (quit a b : ℕ) → a ≤ b → ((x : ℕ) → a ≤ x → x < b → parts_next nfa quit x ≡ false)
    → AreAlike nfa quit a b
alike_up nfa quit a b h none =
    let t = nfa.line_terminator in
    let each = λ (x : ℕ) (low : a ≤ x) (high : x < b).
    or_parts (parts (contains quit) x (x + 1)) (list_any (row_parts t x (x + 1)) nfa.rows) (none x low high) in
    record {
      quits = run_alike (contains quit) a b h (λ x low high. (each x low high).0);
      rows = rows_alike t a b h nfa.rows (λ x low high. (each x low high).1);
    }

turned : (nfa : Nfa) (quit a b : ℕ) → AreAlike nfa quit a b → AreAlike nfa quit b a
turned nfa quit a b h = grind (arith, common_steps, every-weaker)

pub class_alike : (nfa : Nfa) (quit a b : ℕ)
    → class_by (ends_class nfa quit true) a ≡ class_by (ends_class nfa quit true) b → AreAlike nfa quit a b
class_alike nfa quit a b same =
    let ends = ends_class nfa quit true in
    ⊎_elim
    (λ (up : a < b). alike_up nfa quit a b (omega arith) (none_ends ends a b same))
    (λ (down : b ≤ a). turned nfa quit b a (alike_up nfa quit b a down (none_ends ends b a (sym same))))
    (cases_lt a b)

-- ---- and so a step on either is the same

-- the facts of both that are kept
both_either : (k r x y : Facts) → both k x ≡ both k y → both r x ≡ both r y
    → both (either_of k r) x ≡ both (either_of k r) y
both_either k r x y e f = grind (arith, common_steps)

kept_row : (t a b : ℕ) (row : Row) → RowAlike t a b row
    → both (row_reads row) (facts_of t (Some a)) ≡ both (row_reads row) (facts_of t (Some b))
kept_row t a b (Row.Look look next) h = h
kept_row t a b _ h = refl

kept_alike : (t a b : ℕ) (rows : List Row) → Every (RowAlike t a b) rows
    → both (facts_kept rows) (facts_of t (Some a)) ≡ both (facts_kept rows) (facts_of t (Some b))
unfolding facts_kept
kept_alike t a b [] h = refl
kept_alike t a b (row ∷ rows) h =
    both_either (row_reads row) (facts_kept rows) (facts_of t (Some a)) (facts_of t (Some b)) (kept_row t a b row h.0)
    (kept_alike t a b rows h.1)

-- what holds of each row holds of the row of any number
row_of_any : (P : Row → Type 0) → P Row.Fail → (rows : List Row) (q : ℕ) → Every P rows → P (row_at rows q)
row_of_any P fail [] q h = fail
row_of_any P fail (row ∷ rows) zero h = h.0
row_of_any P fail (row ∷ rows) (suc q) h = row_of_any P fail rows q h.1

-- an assertion that reads the same of two neighbours
holds_alike : (direction : Direction) (look : Look) (last x y : Facts)
    → both (facts_read look) x ≡ both (facts_read look) y → holds_read direction look last x
    ≡ holds_read direction look last y
holds_alike Direction.Forward look last x y e = grind (arith, common_steps)
holds_alike Direction.Reverse look last x y e = grind (arith, common_steps)

-- tests of assertions that agree on those of a list of rows
abbrev LookAlike : (Look → Bool) → (Look → Bool) → Row → Type 0
LookAlike f g (Row.Look look next) = f look ≡ g look
LookAlike f g _ = Unit {0}

reach_alike : (rows : List Row) (f g : Look → Bool) → Every (LookAlike f g) rows → (n q : ℕ)
    → reach rows (Tested f) n q ≡ reach rows (Tested g) n q
unfolding reach
reach_alike rows f g same zero q = refl
reach_alike rows f g same (suc n) q =
    step_alike_at (row_at rows q) (row_of_any (LookAlike f g) tt rows q same) (λ p. reach_alike rows f g same n p)
  where
    step_alike_at : (row : Row) → LookAlike f g row
        → ((p : ℕ) → reach rows (Tested f) n p ≡ reach rows (Tested g) n p)
        → reach_by (Tested f) (λ p. reach rows (Tested f) n p) q row
        ≡ reach_by (Tested g) (λ p. reach rows (Tested g) n p) q row
    step_alike_at (Row.Bytes set next) e others = refl
    step_alike_at (Row.Split first second) e others = ap₂ (λ (xs ys : List ℕ). xs ++ ys) (others first) (others second)
    step_alike_at (Row.Look look next) e others = ap₂ (λ holds (xs : List ℕ). if holds then xs else []) e (others next)
    step_alike_at (Row.Match pattern) e others = refl
    step_alike_at Row.Fail e others = refl

module _ {nfa : Nfa} {quit a b : ℕ} (byte_a : a < 256) (byte_b : b < 256) (alike : AreAlike nfa quit a b) where
  facts_same : (read : Facts)
      → both read (facts_of nfa.line_terminator (Some a)) ≡ both read (facts_of nfa.line_terminator (Some b))
      → both read (unit_facts nfa.line_terminator a) ≡ both read (unit_facts nfa.line_terminator b)
  facts_same read e = grind (arith, common_steps)

  looks_same : (s : State) → Every (LookAlike (holds_before nfa a s) (holds_before nfa b s)) nfa.rows
  looks_same s = grind (arith, common_steps, every-weaker, holds_alike, facts_same)

  decided_same : (s : State) → decided_rows nfa a s ≡ decided_rows nfa b s
  decided_same s =
      let f = holds_before nfa a s in
      let g = holds_before nfa b s in
      ap firsts (flat_map-alike (closure nfa.rows (Tested f)) (closure nfa.rows (Tested g)) s.rows
      (λ q. reach_alike nfa.rows f g (looks_same s) (length nfa.rows * length nfa.rows + 1) q))

  target_same : (q : ℕ) → target a (row_at nfa.rows q) ≡ target b (row_at nfa.rows q)
  target_same q = grind (arith, common_steps, row_of_any)

  context_same : (qs : List ℕ)
      → context_of_rows nfa qs (unit_facts nfa.line_terminator a)
      ≡ context_of_rows nfa qs (unit_facts nfa.line_terminator b)
  context_same qs = grind (arith, common_steps, kept_alike, facts_same)

  -- the state that a step leads to, by its parts
  abbrev stepped : List ℕ → List ℕ → ℕ → State
  stepped qs targets unit =
      state_at nfa targets (unit_facts nfa.line_terminator unit) (flat_map (λ q. pattern_of (row_at nfa.rows q)) qs)

  pub step_alike : (kind : MatchKind) (s : State) → step nfa kind s a ≡ step nfa kind s b
  unfolding step
  step_alike kind s = search (rules, decided_same, target_same, context_same)

-- bytes that nothing tells apart lead every node to one node
pub next_alike : (b : Build) (node : Node) {x y : ℕ} → x < 256 → y < 256 → AreAlike b.nfa b.quit x y
    → next_node b node x ≡ next_node b node y
next_alike b Node.Quit below_x below_y alike = refl
next_alike b (Node.Running s) {x} {y} below_x below_y alike = grind (arith, common_steps, step_alike)

-- and so do bytes of one class,
pub class_leads : (b : Build) (byte_classes : Bool) (node : Node) (x y : ℕ) → x < 256 → y < 256
    → class_by (ends_class b.nfa b.quit byte_classes) x ≡ class_by (ends_class b.nfa b.quit byte_classes) y
    → next_node b node x ≡ next_node b node y
class_leads b true node x y below_x below_y same = grind (arith, common_steps, next_alike, class_alike)
class_leads b false node x y below_x below_y same = grind (arith, common_steps, class_of_all)

-- and units of one column.
pub column_leads : (b : Build) (byte_classes : Bool) (node : Node) (x y : ℕ) → x < 257 → y < 257
    → column_by (ends_class b.nfa b.quit byte_classes) x ≡ column_by (ends_class b.nfa b.quit byte_classes) y
    → next_node b node x ≡ next_node b node y
column_leads b byte_classes node x y below_x below_y same =
    grind (arith, common_steps, cases_eq, class_leads, class_below)
