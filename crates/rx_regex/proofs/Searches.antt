-- Searches of the tables of a plan.
use Rattle.rx_spec.proofs.Prelude.{arith, ◌≡◌, ◌≢◌, ◌≤◌, Option, Some, None, Ok, Err, IfErr, List, length, refl, ap}
use Rattle.rx_spec.proofs.Prelude.{sym, ◌∙◌, subst, common_steps, AreBytes, Expression, HalfAnswer, Answer, with_end}
use Rattle.rx_spec.proofs.Prelude.{Query, Match, HalfMatch, MatchError, half_unsplit}
use Rattle.rx_plan.specs.Plans.{Plan, unless_error, outcome}
use Rattle.std.proofs.Math.Logic.{∥∥₁_elim}
use mathlib.Core.HLevel.{⊥_prop}
use Rattle.rx_spec.specs.declared.Direction.{Direction}
use Rattle.rx_meaning.proofs.ServedSearches.{end_by_tables, found_by_tables, tables_agree}
use Rattle.rx_regex.specs.Find.{IsPaired, PlansFindTheSame}
use Rattle.rx_image.specs.Pairs.{Pair}
use Rattle.rx_regex.specs.Pairs.{AreTables, IsPair, forward_table, joined, reverse_table, whole}
use Rattle.rx_regex.specs.Planned.{PairsAgree, PairsEnd, PairsFind, planned}
use Rattle.rx_regex.proofs.Served.{serve_plan, serve_planned}

-- a query that fits a haystack of bytes
pub record Searched (q : Query) : Type 0 where
  pub bytes : AreBytes q.haystack
  pub within : q.end ≤ length q.haystack

-- they answer what is to be answered
pub outcome_by : {p : Plan} {es : List Expression} {pair : Pair} → AreTables p es pair → (q : Query) → Searched q
    → joined pair (whole q) ≡ outcome p es q
outcome_by {p} {es} {pair} t q s = grind (arith, common_steps, found_by_tables, serve_plan)

pub pairs_find : PairsFind
pairs_find both es pair is safe built q bytes within =
    found_by_tables (planned both) es (forward_table pair) (reverse_table pair) safe
    (serve_planned both es is pair built) q bytes within

-- two plans of one line terminator find the same
told_found : (searched : HalfAnswer) {wanted told : Option Match}
    → ◌≡◌ {A = Answer} (unless_error searched (Ok wanted)) (Ok told) → told ≡ wanted
told_found (Ok half_match) e = cc
told_found (Err error) e = absurd (cc)

pub same_found : PlansFindTheSame
same_found p other es q answer other_answer same is is_other = grind (arith, common_steps, told_found)

-- ---- they never disagree

abbrev Agree : Answer → Type 0
Agree answer = (end : HalfMatch) (start : Option HalfMatch) → answer ≢ Err (MatchError.PairMismatch end start)

paired : (answer : Answer) → Agree answer → IfErr answer IsPaired
paired (Err (MatchError.PairMismatch end start)) agree = agree end start refl
paired _ agree = tt

pub pairs_end : PairsEnd
pairs_end both es pair is safe built q bytes within end told =
    end_by_tables (planned both) es (forward_table pair) (reverse_table pair) safe
    (serve_planned both es is pair built) q end bytes within told

pub pairs_agree : PairsAgree
pairs_agree both es pair is safe built q bytes within error e =
    let f = forward_table pair in
    let r = reverse_table pair in
    let agree : Agree (joined pair q) = λ end start mismatch.
    tables_agree (planned both) es f r safe (serve_planned both es is pair built) q end start bytes within mismatch in (
      by_forward (half_unsplit f Direction.Forward q) refl,
      subst (λ answer. IfErr answer IsPaired) e (paired (joined pair q) agree),
    )
  where
    back : HalfAnswer → Answer
    back told = with_end (half_unsplit (reverse_table pair) Direction.Reverse)
        (forward_table pair).is_always_start_anchored q told

    same_error : (other : MatchError) → ◌≡◌ {A = Answer} (Err other) (Err error)
        → ◌≡◌ {A = HalfAnswer} (Err other) (Err error)
    same_error other e = cc

    no_error : (told : Option Match) → ◌≡◌ {A = Answer} (Ok told) (Err error) → ⊥
    no_error told e = cc

    by_forward : (told : HalfAnswer) → half_unsplit (forward_table pair) Direction.Forward q ≡ told
        → half_unsplit (forward_table pair) Direction.Forward q ≡ Err error
    by_forward (Err other) is_told = is_told ∙ same_error other (sym (ap back is_told) ∙ e)
    by_forward (Ok None) is_told = absurd (no_error None (sym (ap back is_told) ∙ e))
    by_forward (Ok (Some end)) is_told =
        let ends = pairs_end both es pair is safe built q bytes within end is_told in
        absurd (no_error (Some (record { pattern = end.pattern; start = ends.0; end = end.offset })) (sym ends.1 ∙ e))

pub paired_by : {pair : Pair} → ∥ IsPair pair ∥₁ → (q : Query) → Searched q → IfErr (joined pair q) IsPaired
paired_by {pair} planned q s =
    paired (joined pair q)
    (λ end start e. ∥∥₁_elim planned ⊥_prop (λ is.
    tables_agree is.plan is.exprs (forward_table pair) (reverse_table pair) is.tables.safe (serve_plan is.tables) q end
    start s.bytes s.within e))
