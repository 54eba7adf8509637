-- The searches that list a closure, with stamps for the rows that were met and a stack of those that wait.
use Rattle.std.proofs.lemmas.Bool.{cases_Bool}
use Rattle.rx_spec.proofs.Prelude.{common_steps, ◌≡◌, ℕ, ◌+◌, ◌<◌, ◌≤◌, ◌==◌, ◌||◌, ◌⊎◌, Bool, true, false, not}
use Rattle.rx_spec.proofs.Prelude.{if◌then◌else◌, List, [], ◌∷◌, ◌++◌, get_or, drop, reverse, length, ap, sym, ◌∙◌}
use Rattle.rx_spec.proofs.Prelude.{subst, arith, append-nil, length-append, ⊎_elim, not-false, not-true}
use Rattle.rx_spec.proofs.Prelude.{nil_from_length, sum_by-cons, slice_get_past, both_ways, option_to_list, Option}
use Rattle.rx_spec.proofs.Prelude.{Some, None, MatchOption, flat_map, list_any, id_count, Row, IsShallow, Passing}
use Rattle.rx_spec.proofs.Prelude.{row_at, closure, fresh}
use Rattle.rx_stepper.proofs.Prelude.{IfNone, IsSearched, IsThin, ReachesItself, ThinRow, by_test, closed_rows}
use Rattle.rx_stepper.proofs.Prelude.{closure_unfolds, every-append, flat_map-append_of, fresh_alike, fresh_append}
use Rattle.rx_stepper.proofs.Prelude.{fresh_keeps, fresh_new, fresh_nil, fresh_old, fresh_within, graph_of, in_turn}
use Rattle.rx_stepper.proofs.Prelude.{is_end, is_met, popped, row_of_thin, seen_if, seen_true, unmet}
use Rattle.std.specs.List.{AllByRecursion as Every}
use Rattle.rx_lemmas.proofs.GraphSearch.{Graph, In, Listed, Notes, Searching, in_cases, in_nil, search_passes}
use Rattle.rx_lemmas.proofs.GraphSearch.{search_turns, search_ends}
use Rattle.rx_stepper.proofs.Members.{in_here, in_left, in_right, in_split, not_in, was}

-- ---- room: no more rows can be new than there are

pub count_new : (n : ℕ) {m : ℕ} (first : Bool) → n + (if first then 1 else 0) ≡ m → first ≡ true → n + 1 ≡ m
count_new n first h e = grind (arith, common_steps, cases_Bool, n)

pub count_old : (n : ℕ) {m : ℕ} (first : Bool) → n + (if first then 1 else 0) ≡ m → first ≡ false → n ≡ m
count_old n first h e = grind (arith, common_steps, cases_Bool, n)

pub unmet_within : (stamps : List ℕ) (now : ℕ) → unmet stamps now ≤ length stamps
unmet_within [] now = omega arith
unmet_within (x ∷ xs) now =
    let Few = λ (v : Bool). (if v then 0 else 1) ≤ 1 in
    let one : (if x == now then 0 else 1) ≤ 1 = elim (x == now) as Few [ true ↦ omega arith | false ↦ omega arith ] in
    omega (arith, sum_by-cons (λ stamp. if stamp == now then 0 else 1) x xs, unmet_within xs now)

-- ---- a turn

-- the flags with one more row
abbrev pub Flags : (seen after : ℕ → Bool) → ℕ → Type 0
Flags seen after id = (x : ℕ) → after x ≡ ((x == id) || seen x)

notes : (seen after : ℕ → Bool) (id : ℕ) → Flags seen after id → Notes seen after id
notes seen after id only = grind (arith, common_steps)

-- the row in front gives way to those behind it, or to none
module _ (g : Graph) {target out before : List ℕ} (rest : List ℕ) (id : ℕ) where
  -- it was met before
  pub passed_on : (seen after : ℕ → Bool) {first : Bool} {left : List ℕ} → Flags seen after id
      → Searching g target seen out before → before ≡ id ∷ rest → first ≡ not (seen id) → first ≡ false
      → left ≡ rest → Searching g target after out left
  passed_on seen after only s e f old goes =
      let here = subst (Searching g target seen out) e s in
      subst
      (Searching g target after out)
      (sym goes)
      (search_passes g (not-false (seen id) (sym f ∙ old)) (notes seen after id only) here)

  -- it is met for the first time
  pub met_now : (seen after : ℕ → Bool) {first : Bool} {more left : List ℕ} → Flags seen after id
      → Searching g target seen out before → before ≡ id ∷ rest → first ≡ not (seen id) → first ≡ true
      → more ≡ out ++ g.own id → left ≡ g.branches id ++ rest → Searching g target after more left
  met_now seen after {left = left} only s e f new listed goes =
      let here = subst (Searching g target seen out) e s in
      let turned = search_turns g (not-true (seen id) (sym f ∙ new)) (notes seen after id only) here in
      subst
      (λ o. Searching g target after o left)
      (sym listed)
      (subst (Searching g target after (out ++ g.own id)) (sym goes) turned)

-- ---- the row in hand, and the stack

-- the row in hand is the first of those in turn
pub hand_first : {hand : Option ℕ} {row : ℕ} (stack : List ℕ) → hand ≡ Some row
    → in_turn hand stack ≡ row ∷ reverse stack
hand_first stack e = ap (λ h. in_turn h stack) e

-- what is taken from the top of the stack is in hand
pub top_in_hand : (hand : Option ℕ) {stack : List ℕ} (rest : List ℕ) → stack ≡ rest ++ option_to_list hand
    → in_turn hand rest ≡ reverse stack
top_in_hand hand rest e = grind (arith, common_steps, append-nil, popped)

-- where none is taken none is left
pub none_waits : (hand : Option ℕ) (rest : List ℕ) (old : ℕ) {len : ℕ} → len ≡ length rest
    → MatchOption hand ((old ≡ 0) × (len ≡ 0)) (λ _. len + 1 ≡ old) → IfNone hand (rest ≡ [])
none_waits None rest old e h = nil_from_length rest (sym e ∙ h.1)
none_waits (Some row) rest old e h = tt

-- with none in hand and an empty stack none is left
none_in_turn : (hand : Option ℕ) (stack : List ℕ) → hand ≡ None → IfNone hand (stack ≡ []) → in_turn hand stack ≡ []
none_in_turn hand stack e h = grind (arith, common_steps)

-- ---- a search from one row: its beginning and its end

module _ (rows : List Row) (pass : Passing) (shallow : IsShallow rows) {stamps found : List ℕ} {now : ℕ} where
  pub searched : {target : List ℕ} (hand : Option ℕ) (stack : List ℕ) → hand ≡ None → IfNone hand (stack ≡ [])
      → Searching (graph_of rows pass shallow) target (is_met stamps now) found (in_turn hand stack)
      → Every (λ q. q < id_count) found → length found + unmet stamps now ≤ length rows
      → (found ≡ target) × IsSearched rows pass stamps now found
  searched {target} hand stack none empty s ids room = (
    search_ends g ended,
    record {
      met = ended.noted;
      listed = λ p h. listed p (ended.listed p h);
      ids = ids;
      room = room;
    },
  )
    where
      g : Graph
      g = graph_of rows pass shallow

      ended : Searching g target (is_met stamps now) found []
      ended = subst (Searching g target (is_met stamps now) found) (none_in_turn hand stack none empty) s

      listed : (p : ℕ) → Listed g found [] p → (x : ℕ) → In (closure rows pass p) x → In found x
      listed p l = go l.above l.below l.split l.given
        where
          go : (above below : List ℕ) → [] ≡ above ++ below
              → ((x : ℕ) → In (g.gives p) x → In found x ⊎ In (flat_map g.gives above) x)
              → (x : ℕ) → In (g.gives p) x → In found x
          go [] below split given x h =
              ⊎_elim (λ (o : In found x). o) (λ (n : In [] x). absurd (in_nil x n)) (given x h)
          go (a ∷ above) below split given x h = absurd (cc)

-- ---- a row that reaches itself alone needs no search

pub itself_there : (rows : List Row) (shallow : IsShallow rows) (q : ℕ) (thin : ThinRow) {at_q : ThinRow}
    → IsThin (row_of_thin at_q) (row_at rows q) → thin ≡ at_q → is_end thin ≡ true → ReachesItself rows q
itself_there rows shallow q thin {at_q} thinned e ends pass = grind (arith, common_steps, closure_unfolds)

module _ (rows : List Row) (pass : Passing) {stamps more found : List ℕ} {now later : ℕ} (q : ℕ) where
  -- it was met before
  pub itself_again : {first : Bool} → ReachesItself rows q → first ≡ not (is_met stamps now q) → first ≡ false
      → Flags (is_met stamps now) (is_met more later) q → unmet more later ≡ unmet stamps now
      → IsSearched rows pass stamps now found
      → (found ≡ found ++ fresh found (closure rows pass q)) × IsSearched rows pass more later found
  itself_again alone f old only count s = (
    sym (ap (λ l. found ++ fresh found l) (alone pass)
        ∙ ap (λ l. found ++ l) (fresh_old found [] q here ∙ fresh_nil found) ∙ append-nil found),
    record {
      met = λ x h. n.stays x (s.met x h);
      listed =
          λ p h. ⊎_elim
          (λ (e : p ≡ q). s.listed p (subst (λ r. is_met stamps now r ≡ true) (sym e) was_met))
          (λ (e : is_met stamps now p ≡ true). s.listed p e)
          (n.only p h);
      ids = s.ids;
      room = omega arith;
    },
  )
    where
      n : Notes (is_met stamps now) (is_met more later) q
      n = notes (is_met stamps now) (is_met more later) q only

      was_met : is_met stamps now q ≡ true
      was_met = not-false (is_met stamps now q) (sym f ∙ old)

      here : In found q
      here = s.listed q was_met q (subst (λ l. In l q) (sym (alone pass)) (in_here q []))

  -- it is met for the first time
  pub itself_new : {first : Bool} {out : List ℕ} → ReachesItself rows q → q < id_count
      → first ≡ not (is_met stamps now q) → first ≡ true → Flags (is_met stamps now) (is_met more later) q
      → unmet more later + 1 ≡ unmet stamps now → out ≡ found ++ q ∷ [] → IsSearched rows pass stamps now found
      → (out ≡ found ++ fresh found (closure rows pass q)) × IsSearched rows pass more later out
  itself_new alone bound f new only count e s =
      grind (
        arith,
        common_steps,
        fresh_new,
        in_nil,
        in_cases,
        in_split,
        in_right,
        in_left,
        every-append,
        length-append,
        notes,
        was,
        not_in,
        not-true,
        fresh_nil,
      )

-- ---- the rows that are given, one after the other

-- past the last row nothing is reached
past_end : (rows : List Row) (pass : Passing) → IsShallow rows → (q : ℕ) → length rows ≤ q → closure rows pass q ≡ []
past_end rows pass shallow q h = grind (arith, common_steps, slice_get_past, closure_unfolds)

pub begun : (rows : List Row) (pass : Passing) (shallow : IsShallow rows) (stamps : List ℕ) {out : List ℕ} (now : ℕ)
    → length stamps ≡ length rows → out ≡ [] → ((x : ℕ) → x < length stamps → is_met stamps now x ≡ false)
    → IsSearched rows pass stamps now out
begun rows pass shallow stamps now len none new = grind (arith, common_steps, past_end, unmet_within)

-- what is new in two lists is new in the first, and then in the second
fresh_parts : (out xs ys : List ℕ)
    → out ++ fresh out (xs ++ ys) ≡ (out ++ fresh out xs) ++ fresh (out ++ fresh out xs) ys
fresh_parts out xs ys =
    grind (arith, common_steps, fresh_append, fresh_alike, same)
  where
    to : (x : ℕ) → In (xs ++ out) x → In (out ++ fresh out xs) x
    to x h =
        ⊎_elim
        (λ (k : In xs x). by_test (was out x)
        (λ (o : In out x). in_left out (fresh out xs) x o)
        (λ (n : was out x ≡ false). in_right out (fresh out xs) x
        (seen_if x (fresh out xs) (fresh_keeps out xs x (seen_true x xs k)
        (λ c. let o = seen_if x out c in absurd (cc))))))
        (λ (k : In out x). in_left out (fresh out xs) x k)
        (in_split xs out x h)

    from : (x : ℕ) → In (out ++ fresh out xs) x → In (xs ++ out) x
    from x h =
        ⊎_elim
        (λ (k : In out x). in_right xs out x k)
        (λ (k : In (fresh out xs) x). in_left xs out x
        (seen_if x xs (fresh_within out xs x (seen_true x (fresh out xs) k))))
        (in_split out (fresh out xs) x h)

    same : (x : ℕ) → was (xs ++ out) x ≡ was (out ++ fresh out xs) x
    same x = both_ways (was (xs ++ out) x) (was (out ++ fresh out xs) x) (to x) (from x)

-- what is listed and what is still new in the rows that are left makes the target
abbrev pub Leaves : (rows : List Row) (pass : Passing) (found left target : List ℕ) → Type 0
Leaves rows pass found left target = found ++ fresh found (flat_map (closure rows pass) left) ≡ target

module _ (rows : List Row) (pass : Passing) (found : List ℕ) {target : List ℕ} (from : List ℕ) (i : ℕ) where
  pub next_given : (q : ℕ) {more : List ℕ} → i < length from → q ≡ get_or from i q
      → more ≡ found ++ fresh found (closure rows pass q)
      → Leaves rows pass found (drop i from) target → Leaves rows pass more (drop (i + 1) from) target
  next_given q {more} h is e s = grind (arith, common_steps, fresh_parts)

  pub all_given : length from ≤ i → Leaves rows pass found (drop i from) target → found ≡ target
  all_given h s = grind (arith, common_steps, fresh_nil)

-- what two lists add, one after the other, is what both reach
pub both_given : (rows : List Row) (pass : Passing) {out more found : List ℕ} (xs ys : List ℕ) → out ≡ []
    → more ≡ out ++ fresh out (flat_map (closure rows pass) xs)
    → found ≡ more ++ fresh more (flat_map (closure rows pass) ys) → found ≡ closed_rows rows pass (xs ++ ys)
both_given rows pass {out} {more} xs ys none first second =
    let given = flat_map (closure rows pass) in
    second
    ∙ ap (λ l. l ++ fresh l (given ys)) (first ∙ ap (λ l. l ++ fresh l (given xs)) none)
    ∙ sym (fresh_parts [] (given xs) (given ys))
    ∙ ap (fresh []) (sym (flat_map-append_of (closure rows pass) xs ys))

-- and the rows that are met and reach themselves alone are those that are listed
pub all_met : {rows : List Row} {pass : Passing} {stamps found : List ℕ} {now : ℕ}
    → IsSearched rows pass stamps now found → (q : ℕ) → closure rows pass q ≡ q ∷ []
    → is_met stamps now q ≡ list_any (λ x. q == x) found
all_met {stamps = stamps} {found = found} {now = now} s q one =
    both_ways (is_met stamps now q) (was found q)
    (λ t. s.listed q t q (subst (λ l. In l q) (sym one) (in_here q [])))
    (s.met q)
