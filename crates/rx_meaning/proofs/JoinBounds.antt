-- Where the answers lie of two tables' searches, joined.
use Rattle.rx_spec.proofs.Prelude.{rules, common_steps, ◌≡◌, ℕ, ◌≤◌, ◌==◌, ◌||◌, ◌⊎◌, inl, inr, Bool, if◌then◌else◌}
use Rattle.rx_spec.proofs.Prelude.{Option, Some, None, Ok, Err, refl, ap, sym, ◌∙◌, arith, AreBytes, Query, IsFit}
use Rattle.rx_spec.proofs.Prelude.{Match, HalfMatch, MatchError, is_anchored, Table, IsSound, HalfAnswer, half_unsplit}
use Rattle.rx_spec.proofs.Prelude.{Answer, match_at, with_start, back_from, with_end}
use Rattle.rx_spec.specs.declared.Direction.{Direction}
use Rattle.rx_lemmas.proofs.Firsts.{by_test}
use Rattle.rx_meaning.specs.Bounds.{IsInBounds, IsMatchInBounds, JoinQuits, JoinInBounds, IsNamed, QuittingAgain}
use Rattle.rx_meaning.specs.Bounds.{QuittingBack}
use Rattle.rx_meaning.proofs.SplitBounds.{half_unsplit_in_bounds, half_unsplit_quits}

module _ (f r : Table) (sound : IsSound f) (sound_reverse : IsSound r) (q : Query) (bytes : AreBytes q.haystack) where
  abbrev reversed : HalfMatch → HalfAnswer
  reversed end = half_unsplit r Direction.Reverse (back_from q end.offset)

  told_ends : (end : HalfMatch) → half_unsplit f Direction.Forward q ≡ Ok (Some end) → IsInBounds q f.pattern_len end
  told_ends end e = half_unsplit_in_bounds f sound Direction.Forward q end bytes e

  -- ---- a match

  module _ (m : Match) where
    match_lies : (pattern start end : ℕ)
        → IsMatchInBounds q f.pattern_len (record { pattern = pattern; start = start; end = end })
        → match_at pattern start end ≡ Ok (Some m) → IsMatchInBounds q f.pattern_len m
    match_lies pattern start end lies e = grind (arith, common_steps)

    no_error : (error : MatchError) → ◌≡◌ {A = Answer} (Err error) (Ok (Some m)) → ⊥
    no_error error e = cc

    match_of_start : (end : HalfMatch) (o : HalfAnswer) → IsInBounds q f.pattern_len end → reversed end ≡ o
        → with_start end o ≡ Ok (Some m) → IsMatchInBounds q f.pattern_len m
    match_of_start end (Err error) b is e = absurd (no_error error e)
    match_of_start end (Ok None) b is e = absurd (no_error (MatchError.PairMismatch end None) e)
    match_of_start end (Ok (Some start)) b is e =
        let s = half_unsplit_in_bounds r sound_reverse Direction.Reverse (back_from q end.offset) start bytes is in
        let made = λ (v : Bool). if v then match_at end.pattern start.offset end.offset
        else Err (MatchError.PairMismatch end (Some start)) in
        by_test (start.pattern == end.pattern)
        (λ t. match_lies end.pattern start.offset end.offset
        (record { low = s.low; order = s.high; high = b.high; pattern = b.pattern }) (sym (ap made t) ∙ e))
        (λ t. absurd (no_error (MatchError.PairMismatch end (Some start)) (sym (ap made t) ∙ e)))

    match_of_end : (o : HalfAnswer) → half_unsplit f Direction.Forward q ≡ o
        → with_end (half_unsplit r Direction.Reverse) f.is_always_start_anchored q o ≡ Ok (Some m)
        → IsMatchInBounds q f.pattern_len m
    match_of_end (Err error) is e = absurd (cc)
    match_of_end (Ok None) is e = absurd (cc)
    match_of_end (Ok (Some end)) is e = search (rules, told_ends, match_lies, match_of_start)

  -- ---- a quit

  module _ (byte offset : ℕ) (fit : IsFit q) where
    not_told : (o : Option Match) → ◌≡◌ {A = Answer} (Ok o) (Err (MatchError.Quit byte offset)) → ⊥
    not_told o e = cc

    same_error : (error : MatchError) → ◌≡◌ {A = Answer} (Err error) (Err (MatchError.Quit byte offset))
        → ◌≡◌ {A = HalfAnswer} (Err error) (Err (MatchError.Quit byte offset))
    same_error error e = cc

    -- the span of the search in reverse lies in the span
    back_names : (end : ℕ) → end ≤ q.end → IsNamed (back_from q end) byte offset → IsNamed q byte offset
    back_names end h b = record { low = b.low; high = omega arith; there = b.there }

    abbrev Quits : Type 0
    Quits = QuittingAgain f Direction.Forward q byte offset ⊎ QuittingBack f r q byte offset

    quit_of_start : (end : HalfMatch) (o : HalfAnswer) → half_unsplit f Direction.Forward q ≡ Ok (Some end)
        → reversed end ≡ o → with_start end o ≡ Err (MatchError.Quit byte offset) → IsNamed q byte offset × Quits
    quit_of_start end (Err error) told is e =
        let b = told_ends end told in
        let low = b.low in
        let high = b.high in
        let within = fit.within in
        let fits : IsFit (back_from q end.offset) = record { within = omega arith; ordered = omega arith } in
        let named = half_unsplit_quits r sound_reverse Direction.Reverse (back_from q end.offset) byte offset fits bytes
        (is ∙ same_error error e) in
        (back_names end.offset high named.0, inr (record { end = end; told = told; quitting = named.1 }))
    quit_of_start end (Ok None) told is e = absurd (no_mismatch end None e)
      where
        no_mismatch : (end : HalfMatch) (start : Option HalfMatch)
            → ◌≡◌ {A = Answer} (Err (MatchError.PairMismatch end start)) (Err (MatchError.Quit byte offset)) → ⊥
        no_mismatch end start e = cc
    quit_of_start end (Ok (Some start)) told is e =
        let made = λ (v : Bool). if v then match_at end.pattern start.offset end.offset
        else Err (MatchError.PairMismatch end (Some start)) in
        by_test (start.pattern == end.pattern)
        (λ t. absurd (not_told (Some (record { pattern = end.pattern; start = start.offset; end = end.offset }))
        (sym (ap made t) ∙ e)))
        (λ t. absurd (no_mismatch end (Some start) (sym (ap made t) ∙ e)))
      where
        no_mismatch : (end : HalfMatch) (start : Option HalfMatch)
            → ◌≡◌ {A = Answer} (Err (MatchError.PairMismatch end start)) (Err (MatchError.Quit byte offset)) → ⊥
        no_mismatch end start e = cc

    quit_of_end : (o : HalfAnswer) → half_unsplit f Direction.Forward q ≡ o
        → with_end (half_unsplit r Direction.Reverse) f.is_always_start_anchored q o ≡ Err (MatchError.Quit byte offset)
        → IsNamed q byte offset × Quits
    quit_of_end (Err error) is e =
        let named = half_unsplit_quits f sound Direction.Forward q byte offset fit bytes (is ∙ same_error error e) in
        (named.0, inl named.1)
    quit_of_end (Ok None) is e = absurd (not_told None e)
    quit_of_end (Ok (Some end)) is e =
        let here = (end.offset == q.start) || is_anchored q.mode || f.is_always_start_anchored in
        let made = λ (v : Bool).
        if v then match_at end.pattern q.start end.offset else with_start end (reversed end) in
        by_test here
        (λ t. absurd (not_told (Some (record { pattern = end.pattern; start = q.start; end = end.offset }))
        (sym (ap made t) ∙ e)))
        (λ t. quit_of_start end (reversed end) is refl (sym (ap made t) ∙ e))

pub join_in_bounds : JoinInBounds
join_in_bounds f r sound sound_reverse q m bytes e =
    match_of_end f r sound sound_reverse q bytes m (half_unsplit f Direction.Forward q) refl e

pub join_quits : JoinQuits
join_quits f r sound sound_reverse q byte offset fit bytes e =
    quit_of_end f r sound sound_reverse q bytes byte offset fit (half_unsplit f Direction.Forward q) refl e
