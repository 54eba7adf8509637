-- The rows of an expression: what the compiler's functions add is put together as the definition puts parts together.
use Rattle.rx_spec.proofs.Prelude.{common_steps, ◌≡◌, ℕ, zero, suc, ◌+◌, ◌-◌, ◌*◌, ◌<◌, ◌≤◌, Bool, Option, Some, List}
use Rattle.rx_spec.proofs.Prelude.{[], ◌∷◌, ◌++◌, length, map, set, refl, sym, ◌∙◌, ap, subst, arith, append_assoc}
use Rattle.rx_spec.proofs.Prelude.{append-nil, length-append, add-one, inl, inr, Result, Ok, Err, IfOk, map-append}
use Rattle.rx_spec.proofs.Prelude.{map-set, Expression, mirror, Part, Maker, straight, row_to, chained, either, choice}
use Rattle.rx_spec.proofs.Prelude.{copies, optional, loop, repeated, compile, rows_count, repeated_count, read_as}
use Rattle.std.proofs.Math.Seq.{set-append_seam}
use Rattle.std.proofs.Math.Nat.{eq-zero-or-pos}
use Rattle.std.specs.declared.alloc.AllocError.{AllocError}
use Rattle.rx_spec.specs.declared.Look.{Look}
use Rattle.rx_spec.specs.Rows as spec
use Rattle.rx_spec.specs.declared.Direction.{Direction}
use Rattle.rx_lemmas.proofs.Rows.{Makes, copies-suc, rows_counted}
use Rattle.rx_expr.specs.Compiles.{Adds, maker}
use Rattle.rx_expr.specs.Nfa.{row_of}
use Rattle.rx_expr.specs.declared.thompson.nfa.Row.{Row}
use Rattle.rx_expr.proofs.MirroredForms.{rows_count-mirror}

-- ---- how many rows are added

pub rows_count-read_as : (direction : Direction) (e : Expression) → rows_count (read_as direction e) ≡ rows_count e
rows_count-read_as Direction.Forward e = refl
rows_count-read_as Direction.Reverse e = rows_count-mirror e

pub maker_makes : (direction : Direction) (e : Expression) → Makes (maker direction e) (rows_count e)
maker_makes direction e base next = rows_counted (read_as direction e) base next ∙ rows_count-read_as direction e

length-added : {make : Maker} {old new : List Row} {next entry : ℕ} → Adds make old new next entry
    → length new ≡ length old + length (make (length old) next).rows
length-added {make} {old} {new} {next} added = grind (arith, common_steps)

pub length-counted : {make : Maker} {old new : List Row} {next entry count : ℕ} → Makes make count
    → Adds make old new next entry → length new ≡ length old + count
length-counted {old = old} {next = next} makes added = grind (arith, common_steps)

-- ---- the same said of equal values

pub adds_same : {made make : Maker} {old new : List Row} {next entry : ℕ} → made ≡ make
    → Adds made old new next entry → Adds make old new next entry
adds_same {old = old} {new = new} {next = next} {entry = entry} e added = grind (arith, common_steps)

pub adds_before : {make : Maker} {old new : List Row} {next after entry : ℕ} → next ≡ after
    → Adds make old new next entry → Adds make old new after entry
adds_before {make} {old} {new} {entry = entry} e added = subst (λ n. Adds make old new n entry) e added

pub adds_entered : {make : Maker} {old new : List Row} {next place entry : ℕ} → entry ≡ place
    → Adds make old new next place → Adds make old new next entry
adds_entered {make} {old} {new} {next} e added = subst (Adds make old new next) (sym e) added

pub ok_same : (r : Result ℕ AllocError) {made make : Maker} (old new : List Row) (next : ℕ) → made ≡ make
    → IfOk r (Adds made old new next) → IfOk r (Adds make old new next)
ok_same (Ok entry) old new next e added = adds_same e added
ok_same (Err error) old new next e added = tt

-- ---- what each form adds

pub adds_nothing : {old : List Row} {next : ℕ} → Adds straight old old next next
adds_nothing {old} = record { entered = refl; rows = sym (append-nil (map row_of old)) }

-- what comes after, and then what leads to it
pub adds_chained : {first second : Maker} {old mid new : List Row} {next after entry : ℕ}
    → Adds second old mid next after → Adds first mid new after entry → Adds (chained first second) old new next entry
adds_chained {first} {second} {old} {next = next} later sooner = grind (arith, common_steps)

-- one more optional round
pub adds_optional : (greedy : Bool) (n : ℕ) {body : Maker} {old mid late new : List Row} {next entered round : ℕ}
    → (split : Row) → Adds (optional greedy n body) old mid next entered → Adds body mid late entered round
    → row_of split ≡ choice greedy round next → new ≡ late ++ (split ∷ [])
    → Adds (optional greedy (n + 1) body) old new next (length late)
unfolding optional
adds_optional greedy n {body} {old} {mid} {late} {new} {next} split before added is pushed =
    grind (arith, common_steps, length-added)

pub adds_no_round : (greedy : Bool) (body : Maker) {old : List Row} {next : ℕ}
    → Adds (optional greedy 0 body) old old next next
unfolding optional
adds_no_round greedy body {old = old} = record { entered = refl; rows = sym (append-nil (map row_of old)) }

-- a Split before the body that leads back to it, put there when the body's entry is known
pub adds_loop : (greedy : Bool) {body : Maker} {old first late new : List Row} {next round : ℕ} (split : Row)
    → first ≡ old ++ (Row.Fail ∷ []) → Adds body first late (length old) round
    → row_of split ≡ choice greedy round next → new ≡ set late (length old) split
    → Adds (loop greedy body) old new next (length old)
adds_loop greedy {body} {old} {first} {late} {next = next} split opened added is put =
    grind (arith, common_steps, length-append, map-append, append_assoc, map-set, set-append_seam)

-- ---- copies

-- the same rows by another maker
adds_as : {made make : Maker} {old new : List Row} {next entry : ℕ} → ((b n : ℕ) → made b n ≡ make b n)
    → Adds made old new next entry → Adds make old new next entry
adds_as {old = old} {next = next} same added = grind (arith, common_steps)

pub adds_no_copy : (body : Maker) {old : List Row} {next : ℕ} → Adds (copies 0 body) old old next next
unfolding copies
adds_no_copy body = adds_nothing

pub adds_copy : (n : ℕ) {body : Maker} {old mid new : List Row} {next entered entry : ℕ}
    → Adds (copies n body) old mid next entered → Adds body mid new entered entry
    → Adds (copies (n + 1) body) old new next entry
adds_copy n {body} {old} {new = new} {next = next} {entry = entry} before added =
    let whole = adds_as (λ b m. sym (copies-suc body n b m)) (adds_chained before added) in
    subst (λ k. Adds (copies k body) old new next entry) (sym (add-one n)) whole

-- a further round fits where all do
pub round_fits : (round count each : ℕ) → round < count → round * each + each ≤ count * each
round_fits round count each lt = grind arith

-- ---- what has no rows is entered where its end is

-- it makes nothing, wherever it stands
abbrev IsBare : Maker → Type 0
IsBare make = (base next : ℕ) → make base next ≡ straight base next

bare_copies : (body : Maker) → IsBare body → (n : ℕ) → IsBare (copies n body)
unfolding copies
bare_copies body h zero base next = refl
bare_copies body h (suc n) base next =
    ap (λ (p : Part). chained (copies n body) (λ b m. p) base next) (h base next)
    ∙ bare_copies body h n (base + 0) next

no_more : (least k r : ℕ) → least * r + k * (r + 1) ≡ 0 → k ≡ 0
no_more least zero r z = refl
no_more least (suc k) r z = absurd (grind arith)

no_copies : (least k r : ℕ) → least * r + k * (r + 1) ≡ 0 → 0 < r → least ≡ 0
no_copies zero k r z h = refl
no_copies (suc least) k r z h = absurd (grind arith)

bare : (e : Expression) → rows_count e ≡ 0 → IsBare (compile e)
unfolding compile rows_count copies optional
bare Expression.Empty z base next = refl
bare (Expression.Concat a b) z base next =
    let none : rows_count a ≡ 0 = omega arith in
    let nothing : rows_count b ≡ 0 = omega arith in
    ap (λ (p : Part). chained (compile a) (λ x y. p) base next) (bare b nothing base next)
    ∙ bare a none (base + 0) next
bare (Expression.Repeat least (Some most) greedy body) z base next =
    let more = most - least in
    let rounds = λ (k : ℕ). chained (copies least (compile body)) (optional greedy k (compile body)) base next in
    ap rounds (no_more least more (rows_count body) z)
    ∙ (elim (eq-zero-or-pos (rows_count body)) [
      | inl none ↦ bare_copies (compile body) (bare body none) least (base + 0) next
      | inr some ↦ ap (λ n. copies n (compile body) (base + 0) next) (no_copies least more (rows_count body) z some)
    ])
bare _ z base next = absurd (omega arith)

bare_maker : (direction : Direction) (e : Expression) → rows_count e ≡ 0 → IsBare (maker direction e)
bare_maker direction e z = bare (read_as direction e) (rows_count-read_as direction e ∙ z)

pub adds_bare : (direction : Direction) (e : Expression) {old : List Row} {next : ℕ} → rows_count e ≡ 0
    → Adds (maker direction e) old old next next
adds_bare direction e z = adds_as (λ b n. sym (bare_maker direction e z b n)) adds_nothing

pub adds_bare_copies : (direction : Direction) (e : Expression) (n : ℕ) {old : List Row} {next : ℕ}
    → rows_count e ≡ 0 → Adds (copies n (maker direction e)) old old next next
adds_bare_copies direction e n z = grind (arith, common_steps, bare_copies, bare_maker)

-- ---- an expression that is taken apart, read either way

pub maker-empty : {e : Expression} (direction : Direction) → Expression.Empty ≡ e → straight ≡ maker direction e
unfolding compile mirror
maker-empty Direction.Forward is = ap compile is
maker-empty Direction.Reverse is = ap (maker Direction.Reverse) is

pub maker-class : {e : Expression} (direction : Direction) (set : ℕ) → Expression.Class set ≡ e
    → row_to (spec.Bytes set) ≡ maker direction e
unfolding compile mirror
maker-class Direction.Forward set is = ap compile is
maker-class Direction.Reverse set is = ap (maker Direction.Reverse) is

pub maker-look : {e : Expression} (direction : Direction) (look : Look) → Expression.Look look ≡ e
    → row_to (spec.Look look) ≡ maker direction e
unfolding compile mirror
maker-look Direction.Forward look is = ap compile is
maker-look Direction.Reverse look is = ap (maker Direction.Reverse) is

pub maker-concat : {e a b : Expression} (direction : Direction) → direction ≡ Direction.Forward
    → Expression.Concat a b ≡ e → chained (maker direction a) (maker direction b) ≡ maker direction e
unfolding compile
maker-concat Direction.Forward forward is = ap compile is
maker-concat Direction.Reverse forward is = absurd (cc)

pub maker-concat_reverse : {e a b : Expression} (direction : Direction) → direction ≡ Direction.Reverse
    → Expression.Concat a b ≡ e → chained (maker direction b) (maker direction a) ≡ maker direction e
unfolding compile mirror
maker-concat_reverse Direction.Forward reverse is = absurd (cc)
maker-concat_reverse Direction.Reverse reverse is = ap (maker Direction.Reverse) is

pub maker-alternate : {e a b : Expression} (direction : Direction) → Expression.Alternate a b ≡ e
    → either (maker direction a) (maker direction b) ≡ maker direction e
unfolding compile mirror
maker-alternate Direction.Forward is = ap compile is
maker-alternate Direction.Reverse is = ap (maker Direction.Reverse) is

pub maker-repeat : {e body : Expression} {least : ℕ} {most : Option ℕ} {greedy : Bool} (direction : Direction)
    → Expression.Repeat least most greedy body ≡ e
    → repeated least most greedy (maker direction body) ≡ maker direction e
unfolding compile mirror
maker-repeat Direction.Forward is = ap compile is
maker-repeat Direction.Reverse is = ap (maker Direction.Reverse) is

pub rows-concat : {e a b : Expression} → Expression.Concat a b ≡ e → rows_count e ≡ rows_count a + rows_count b
unfolding rows_count
rows-concat is = ap rows_count (sym is)

pub rows-alternate : {e a b : Expression} → Expression.Alternate a b ≡ e
    → rows_count e ≡ rows_count a + rows_count b + 1
unfolding rows_count
rows-alternate is = ap rows_count (sym is)

pub rows-repeat : {e body : Expression} {least : ℕ} {most : Option ℕ} {greedy : Bool}
    → Expression.Repeat least most greedy body ≡ e → rows_count e ≡ repeated_count least most (rows_count body)
unfolding rows_count
rows-repeat is = ap rows_count (sym is)
