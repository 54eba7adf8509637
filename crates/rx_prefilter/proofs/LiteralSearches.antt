-- Searches with a pair of tables that search for one literal.
use Rattle.rx_spec.proofs.Prelude.{common_steps, ◌≡◌, ℕ, ◌+◌, ◌-◌, ◌<◌, ◌≤◌, ◌==◌, ◌||◌, Bool, true, false, List}
use Rattle.rx_spec.proofs.Prelude.{length, slice_index, Option, Some, None, Ok, Err, if◌then◌else◌, ap, refl, sym, ◌∙◌}
use Rattle.rx_spec.proofs.Prelude.{subst, arith, IfSome, eq-eqb, eqb-true, false_from_ne_true, AreBytes, beside}
use Rattle.rx_spec.proofs.Prelude.{half_search, whole_walk, Answer, back_from, match_at, with_end, with_start, Anchored}
use Rattle.rx_spec.proofs.Prelude.{HalfMatch, IsFit, MatchError, Query, is_anchored, is_done, half_unsplit}
use Rattle.rx_spec.proofs.Prelude.{skips_splits, start_error, start_row, IsSound, Table, cases_Bool, inl, inr}
use Rattle.rx_spec.specs.declared.Direction.{Direction}
use Rattle.memchr.specs.Find.{OccursAt}
use Rattle.rx_lemmas.proofs.ReadUnits.{beside_is_byte}
use Rattle.rx_search.specs.Starts.{IsStart}
use Rattle.rx_search.proofs.Halves.{begun}
use Rattle.rx_search.proofs.Standing.{Standing}
use Rattle.rx_search.proofs.Walks.{Place, Step}
use Rattle.rx_prefilter.specs.Literals.{EndsWith, IsLiteral}
use Rattle.rx_prefilter.specs.OnlyLiterals.{IsFirstPlace, LeadsBack, Lies, SearchesFor, StartsAt, Tells, back_walk}
use Rattle.rx_prefilter.proofs.Begun.{Begun}
use Rattle.rx_prefilter.proofs.Looking.{found, nowhere, walk_from, walk_on}
use Rattle.rx_prefilter.proofs.Telling.{tells_alive, tells_there}

-- a search in one direction that starts in a mode at a row
pub record Started (t : Table) (mode : Anchored) (row : ℕ) : Type 0 where
  pub sound : IsSound t
  pub whole : skips_splits t ≡ false
  pub starts : StartsAt t mode row

-- a forward table that searches for a literal
pub record IsForward (t : Table) (literal : List ℕ) (pattern : ℕ) (at : ℕ → ℕ) : Type 0 where
  pub started : Started t Anchored.No (at 0)
  pub is_literal : IsLiteral t literal at
  pub below : (k : ℕ) → k ≤ length literal → at k < t.size
  pub tells : Tells t (at (length literal)) pattern

-- a reverse table that tells where it starts
pub record IsReverse (t : Table) (literal : List ℕ) (pattern start before : ℕ) : Type 0 where
  pub started : Started t Anchored.Yes start
  pub back : LeadsBack t literal start 0 before
  pub below : before < t.size
  pub tells : Tells t before pattern

-- what a half search that isn't done tells
module _ {t : Table} {mode : Anchored} {row : ℕ} (s : Started t mode row) (direction : Direction) (q : Query)
    (bytes : AreBytes q.haystack) (mode_is : q.mode ≡ mode) where
  byte_beside : (byte : Option ℕ) → beside direction q ≡ byte → IfSome byte (λ b. b < 256)
  byte_beside None e = tt
  byte_beside (Some b) e = beside_is_byte direction q b bytes e

  is_start : IsStart t direction q row
  is_start = record {
    allowed =
        ap (start_error t.settings (beside direction q)) mode_is
        ∙ (s.starts (beside direction q) (byte_beside (beside direction q) refl)).allowed;
    row_is =
        (s.starts (beside direction q) (byte_beside (beside direction q) refl)).row_is
        ∙ ap (start_row t.machine t.settings (beside direction q)) (sym mode_is);
  }

  unsplit : half_unsplit t direction q ≡ half_search t.machine t.settings direction q
  unsplit = grind (arith, common_steps)

  pub walked : is_done q ≡ false → half_unsplit t direction q ≡ whole_walk t.machine direction q row
  walked goes = unsplit ∙ begun is_start goes

  pub none_done : is_done q ≡ true → half_unsplit t direction q ≡ Ok None
  none_done done = grind (arith, common_steps)

-- the end of a match of the literal
abbrev end_of : (pattern len at : ℕ) → HalfMatch
end_of pattern len at = record { pattern = pattern; offset = at + len }

module _ {f r : Table} {literal : List ℕ} {pattern start before : ℕ} {at : ℕ → ℕ}
    (forward : IsForward f literal pattern at) (reverse : IsReverse r literal pattern start before) (q : Query)
    (fits : IsFit q) (bytes : AreBytes q.haystack) (mode : q.mode ≡ Anchored.No) where
  abbrev len : ℕ
  len = length literal

  -- where all of it was read last, it occurs
  read_there : {from to : ℕ} → to ≤ q.end → Begun q.haystack literal from to len
      → OccursAt q.haystack literal (to - len)
  read_there high b = grind (arith, common_steps)

  stands : Standing f (at len)
  stands = record { sound = forward.started.sound; below = forward.below len (omega arith) }

  first_place : is_done q ≡ false → Place q q.start
  first_place goes = grind (arith, common_steps)

  -- ---- forward

  forward_walks : is_done q ≡ false → half_unsplit f Direction.Forward q ≡ walk_from f q (at 0) q.start
  forward_walks goes = walked forward.started Direction.Forward q bytes mode goes

  pub forward_none : IsFirstPlace q.haystack literal q.start q.end None → half_unsplit f Direction.Forward q ≡ Ok None
  forward_none none = elim (cases_Bool (is_done q)) [
    | inl done ↦ none_done forward.started Direction.Forward q bytes mode done
    | inr goes ↦
        forward_walks goes
        ∙ nowhere forward.started.sound forward.is_literal forward.below bytes (first_place goes)
        (λ end high b. none (end - len) (omega arith) (omega arith) (read_there high b))
  ]

  module _ {place : ℕ} (is : IsFirstPlace q.haystack literal q.start q.end (Some place)) where
    goes : is_done q ≡ false
    goes = grind (arith, common_steps)

    lies : Lies q literal place
    lies = grind (arith, common_steps)

    all_but_last : Begun q.haystack literal q.start (q.start + (place - q.start) + len - 1) (len - 1)
    all_but_last =
        let low = is.0.low in
        let some = forward.is_literal.some in
        record {
          few = omega arith;
          reads = λ i h.
              let here : q.start + (place - q.start) + len - 1 - (len - 1) + i ≡ place + i = omega arith in
              ap (slice_index q.haystack) here ∙ is.1.reads i (omega arith);
        }

    not_before : (end : ℕ) → end < q.start + (place - q.start) + len → Begun q.haystack literal q.start end len → ⊥
    not_before end h b =
        let few = b.few in
        let low = is.0.low in
        let high = is.0.high in
        is.0.before (end - len) (omega arith) (omega arith)
        (read_there (omega arith) b)

    leads_last : f.machine.next (at (len - 1)) (slice_index q.haystack (q.start + (place - q.start) + len - 1)) ≡ at len
    leads_last = by_longest
      where
        some : 0 < len
        some = forward.is_literal.some

        byte_is : slice_index q.haystack (q.start + (place - q.start) + len - 1) ≡ slice_index literal (len - 1)
        byte_is =
            let low = is.0.low in
            let here : q.start + (place - q.start) + len - 1 ≡ place + (len - 1) = omega arith in
            ap (slice_index q.haystack) here ∙ is.1.reads (len - 1) (omega arith)

        last_below : slice_index literal (len - 1) < 256
        last_below =
            let high = lies.high in
            let within = fits.within in
            subst (λ (b : ℕ). b < 256) byte_is
            (bytes (q.start + (place - q.start) + len - 1) 0
            (let low = is.0.low in omega (arith, low)))

        whole : EndsWith literal (len - 1) (slice_index literal (len - 1)) len
        whole = grind (arith, common_steps)

        by_longest : f.machine.next (at (len - 1)) (slice_index q.haystack (q.start + (place - q.start) + len - 1))
            ≡ at len
        by_longest =
            let l = forward.is_literal.leads (len - 1) (slice_index literal (len - 1)) (omega arith)
            last_below in
            let most = l.is_longest.most len whole in
            let within = l.is_longest.within in
            let all : l.len ≡ len = omega arith in
            ap (f.machine.next (at (len - 1))) byte_is ∙ l.there ∙ ap at all

    pub forward_found : half_unsplit f Direction.Forward q ≡ Ok (Some (end_of pattern len place))
    forward_found =
        forward_walks goes
        ∙ found forward.started.sound forward.is_literal forward.below bytes (first_place goes) (place - q.start)
        (let low = is.0.low in let high = lies.high in omega arith) all_but_last not_before
        ∙ walk_on step
        (record { plain = forward.is_literal.plain len (omega arith); alive = tells_alive stands forward.tells })
        ∙ ap (walk_from f q (at len)) after_last
        ∙ tells_there stands forward.tells Direction.Forward q (place + len) bytes
      where
        some : 0 < len
        some = forward.is_literal.some

        after_last : q.start + (place - q.start) + len - 1 + 1 ≡ place + len
        after_last = let low = is.0.low in omega arith

        step : Step f Direction.Forward q (at (len - 1)) (q.start + (place - q.start) + len - 1) (at len)
        step =
            let low = is.0.low in
            let high = lies.high in
            record {
              place = record {
                fits = fits.within;
                in_span = record { low = omega arith; high = omega arith };
              };
              more = λ over. omega (arith, over);
              turn = record { leads = sym leads_last; standing = stands };
            }

    -- ---- in reverse

    abbrev back : Query
    back = back_from q (place + len)

    lies_back : Lies back literal place
    lies_back = grind (arith, common_steps)

    back_goes : is_done back ≡ false
    back_goes = grind (arith, common_steps)

    pub reverse_found : half_unsplit r Direction.Reverse back
        ≡ Ok (Some (record { pattern = pattern; offset = place }))
    reverse_found =
        let none : place + 0 ≡ place = omega arith in
        walked reverse.started Direction.Reverse back bytes refl back_goes
        ∙ reverse.back back place lies_back
        ∙ ap (back_walk r back before) none
        ∙ tells_there (record { sound = reverse.started.sound; below = reverse.below }) reverse.tells Direction.Reverse
        back place bytes

-- Together they search for the literal.
pub searches_for : {f r : Table} {literal : List ℕ} {pattern start before : ℕ} {at : ℕ → ℕ}
    → f.is_always_start_anchored ≡ false → IsForward f literal pattern at → IsReverse r literal pattern start before
    → SearchesFor f r literal pattern
searches_for {f} {r} {literal} {pattern} {start} {before} {at} free forward reverse q fits bytes mode None is =
    ap (with_end (half_unsplit r Direction.Reverse) f.is_always_start_anchored q)
    (forward_none forward reverse q fits bytes mode is)
searches_for {f} {r} {literal} {pattern} {start} {before} {at} free forward reverse q fits bytes mode (Some place) is =
    ap (with_end (half_unsplit r Direction.Reverse) f.is_always_start_anchored q)
    (forward_found forward reverse q fits bytes mode is)
    ∙ ap (λ (here : Bool). if here then match_at pattern q.start (place + length literal) else later) begins_later
    ∙ ap (with_start end) (reverse_found forward reverse q fits bytes mode is)
    ∙ ap (λ (same : Bool). if same then match_at pattern place (place + length literal) else mismatch)
    (eq-eqb pattern pattern refl)
  where
    end : HalfMatch
    end = end_of pattern (length literal) place

    later : Answer
    later = with_start end (half_unsplit r Direction.Reverse (back_from q (place + length literal)))

    mismatch : Answer
    mismatch = Err (MatchError.PairMismatch end (Some (record { pattern = pattern; offset = place })))

    not_there : (place + length literal == q.start) ≡ false
    not_there =
        false_from_ne_true (place + length literal == q.start) (λ e.
        let low = is.0.low in
        let some = forward.is_literal.some in
        let here = eqb-true (place + length literal) q.start e in
        omega arith)

    begins_later : ((place + length literal == q.start) || is_anchored q.mode || f.is_always_start_anchored) ≡ false
    begins_later = rw (not_there, mode, free) refl
