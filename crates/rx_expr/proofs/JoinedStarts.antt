-- The Splits that join the starts of all patterns, the last pair first.
use Rattle.rx_spec.proofs.Prelude.{common_steps, ◌≡◌, ℕ, zero, suc, ◌+◌, ◌-◌, ◌<◌, ◌≤◌, List, [], ◌∷◌, ◌++◌, length}
use Rattle.rx_spec.proofs.Prelude.{map, drop, get_or, refl, sym, ◌∙◌, ap, subst, arith, append_assoc, append-nil}
use Rattle.rx_spec.proofs.Prelude.{length-append, length-drop, Result, Ok, Err, IfOk, map-append, start_of_all}
use Rattle.std.specs.declared.alloc.AllocError.{AllocError}
use Rattle.rx_spec.specs.Rows as spec
use Rattle.rx_expr.specs.Compiles.{AddsRow, AddsJoined, joined_count}
use Rattle.rx_expr.specs.Nfa.{row_of}
use Rattle.rx_expr.specs.declared.thompson.nfa.Row.{Row}
use Rattle.rx_expr.proofs.Lists.{drop_at}

-- ---- how many rows are added

pub length-start_of_all : (base : ℕ) (starts : List ℕ)
    → length (start_of_all base starts).rows ≡ joined_count (length starts)
unfolding start_of_all
length-start_of_all base [] = refl
length-start_of_all base (start ∷ []) = refl
length-start_of_all base (start ∷ (next ∷ starts)) =
    let others = start_of_all base (next ∷ starts) in
    omega (
      arith,
      length-append others.rows (spec.Split start others.entry ∷ []),
      length-start_of_all base (next ∷ starts),
    )

pub length-joined : {starts : List ℕ} {old new : List Row} {entry : ℕ} → AddsJoined starts old new entry
    → length new ≡ length old + joined_count (length starts)
length-joined {starts} {old} added = grind (arith, common_steps, length-start_of_all)

-- ---- from the last start on

-- no start at all
pub ok_failed : (r : Result ℕ AllocError) (old new : List Row) (starts : List ℕ) → length starts ≡ 0
    → IfOk r (AddsRow Row.Fail old new) → IfOk r (AddsJoined starts old new)
unfolding start_of_all
ok_failed (Ok id) old new [] none pushed = grind (arith, common_steps)
ok_failed (Ok id) old new (start ∷ starts) none pushed = absurd (omega arith)
ok_failed (Err error) old new starts none pushed = tt

-- the last one alone
joined_one : {old : List Row} (start : ℕ) → AddsJoined (start ∷ []) old old start
unfolding start_of_all
joined_one {old} start = record { entered = refl; rows = sym (append-nil (map row_of old)) }

pub joined_last : (starts : List ℕ) {old : List Row} {start : ℕ} → 0 < length starts
    → start ≡ get_or starts (length starts - 1) start → AddsJoined (drop (length starts - 1) starts) old old start
joined_last starts {old} {start} some is = grind (arith, common_steps, joined_one)

-- one start more before others
split_before : (base start : ℕ) (starts : List ℕ) → 0 < length starts → start_of_all base (start ∷ starts) ≡ record {
  entry = base + length (start_of_all base starts).rows;
  rows = (start_of_all base starts).rows ++ (spec.Split start (start_of_all base starts).entry ∷ []);
}
unfolding start_of_all
split_before base start [] h = absurd (omega arith)
split_before base start (next ∷ starts) h = refl

joined_before : {starts : List ℕ} {old mid new : List Row} {start joined : ℕ} → 0 < length starts
    → AddsJoined starts old mid joined → new ≡ mid ++ (Row.Split start joined ∷ [])
    → AddsJoined (start ∷ starts) old new (length mid)
joined_before {starts} {old} {mid} {start = start} {joined = joined} some added pushed =
    grind (arith, common_steps, split_before, map-append, append_assoc)

pub joined_more : (starts : List ℕ) (k : ℕ) {old mid new : List Row} {start joined : ℕ} → 1 ≤ k → k < length starts
    → start ≡ get_or starts (length starts - 1 - k) start
    → AddsJoined (drop (length starts - k) starts) old mid joined → new ≡ mid ++ (Row.Split start joined ∷ [])
    → AddsJoined (drop (length starts - (k + 1)) starts) old new (length mid)
joined_more starts k {old} {mid} {new} {start} some more is added pushed =
    let place = length starts - 1 - k in
    let lt : place < length starts = omega arith in
    let at : length starts - (k + 1) ≡ place = omega arith in
    let after : place + 1 ≡ length starts - k = omega arith in
    let split : drop (length starts - (k + 1)) starts ≡ start ∷ drop (length starts - k) starts =
    ap (λ n. drop n starts) at ∙ drop_at starts place lt is ∙ ap (λ n. start ∷ drop n starts) after in
    let left : 0 < length (drop (length starts - k) starts) = simp length-drop (omega arith) in
    subst (λ xs. AddsJoined xs old new (length mid)) (sym split) (joined_before left added pushed)

joined_count-pos : (n : ℕ) → 1 ≤ n → joined_count n + 1 ≡ n
joined_count-pos zero h = absurd (omega arith)
joined_count-pos (suc n) h = omega arith

-- room is left for a Split where all fit
pub joined_room : (starts : List ℕ) (k limit : ℕ) {old mid : List Row} {joined : ℕ} → 1 ≤ k → k < length starts
    → AddsJoined (drop (length starts - k) starts) old mid joined
    → length old + joined_count (length starts) ≤ limit → length mid < limit
joined_room starts k limit {old} some more added room =
    let len : length (drop (length starts - k) starts) ≡ k = simp length-drop (omega arith) in
    let here = length-joined added ∙ ap (λ n. length old + joined_count n) len in
    let all : joined_count (length starts) + 1 ≡ length starts = joined_count-pos (length starts) (omega arith) in
    omega (arith, joined_count-pos k some)
