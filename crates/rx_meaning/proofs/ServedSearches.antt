-- Searches that are made of half searches are alike where these are: with matches inside a character passed over,
-- joined, and one after another.
use Rattle.rx_spec.proofs.Prelude.{arith, rules, ◌≡◌, ℕ, suc, zero, ◌-◌, Bool, true, false, if◌then◌else◌, List, refl}
use Rattle.rx_spec.proofs.Prelude.{ap, ap₂, sym, ◌∙◌, common_steps, AreBytes, Expression, Query, Table, HalfAnswer}
use Rattle.rx_spec.proofs.Prelude.{half_search, narrower, unless_split, skip_splits, split_limit, skips_splits}
use Rattle.rx_spec.proofs.Prelude.{half_unsplit, Answer, joined_search, join, iterate}
use Rattle.rx_plan.specs.Plans.{Plan, plan_build}
use Rattle.rx_spec.specs.declared.Direction.{Direction}
use Rattle.rx_lemmas.proofs.ReadUnits.{narrower_bytes}
use Rattle.rx_meaning.specs.Preference.{build_half_search}
use Rattle.rx_meaning.specs.Joined.{plan_search}
use Rattle.rx_meaning.specs.Tables.{HalfUnsplitOfTable, OverlappingUnsplitOfTable, JoinOfTables, IterateOfTables, Flags}
use Rattle.rx_meaning.specs.Tables.{build_half_unsplit, flags_of, build_join, ServePlan, FoundByTables, EndByTables}
use Rattle.rx_meaning.specs.Tables.{TablesAgree, HalfUnsplitOfCopy, OverlappingUnsplitOfCopy, JoinOfCopies}
use Rattle.rx_meaning.specs.Tables.{IterateOfCopies}
use Rattle.rx_meaning.proofs.IteratedSearches.{iterate_alike}
use Rattle.rx_meaning.proofs.JoinedSearches.{joined_search_holds, joined_end_holds, never_mismatched_holds}
use Rattle.rx_meaning.proofs.ServedStarts.{half_of_table_holds, overlapping_of_table_holds, half_of_copy_holds}
use Rattle.rx_meaning.proofs.ServedStarts.{overlapping_of_copy_holds}

-- on every haystack of bytes two searches answer the same
abbrev AnswerAlike : {A : Type 0} → (Query → A) → (Query → A) → Type 0
AnswerAlike g h = (q : Query) → AreBytes q.haystack → g q ≡ h q

-- ---- matches inside a character passed over

skips_alike : (g h : Query → HalfAnswer) → AnswerAlike g h → (direction : Direction) (n : ℕ)
    → AnswerAlike (skip_splits g direction n) (skip_splits h direction n)
unfolding skip_splits
skips_alike g h alike direction zero q bytes = refl
skips_alike g h alike direction (suc n) q bytes =
    ap₂ (unless_split direction q) (alike q bytes)
    (skips_alike g h alike direction n (narrower direction q) (narrower_bytes direction q bytes))

-- as a flag says
abbrev unsplit : Bool → (Query → HalfAnswer) → Direction → Query → HalfAnswer
unsplit skips search direction q = if skips then skip_splits search direction (split_limit q) q else search q

unsplit_alike : (skips : Bool) (g h : Query → HalfAnswer) → AnswerAlike g h → (direction : Direction)
    → AnswerAlike (unsplit skips g direction) (unsplit skips h direction)
unsplit_alike true g h alike direction q bytes = skips_alike g h alike direction (split_limit q) q bytes
unsplit_alike false g h alike direction q bytes = alike q bytes

pub half_unsplit_of_table : HalfUnsplitOfTable
half_unsplit_of_table t b serves direction q bytes =
    unsplit_alike (skips_splits t) (half_search t.machine t.settings direction) (build_half_search b direction)
    (half_of_table_holds t b serves direction) direction q bytes

pub overlapping_unsplit_of_table : OverlappingUnsplitOfTable
overlapping_unsplit_of_table t b serves direction q bytes = grind (arith, common_steps, overlapping_of_table_holds)

pub half_unsplit_of_copy : HalfUnsplitOfCopy
half_unsplit_of_copy t u c skips direction q bytes =
    unsplit_alike (skips_splits t) (half_search t.machine t.settings direction)
    (half_search u.machine u.settings direction) (half_of_copy_holds t u c direction) direction q bytes
    ∙ ap (λ v. unsplit v (half_search u.machine u.settings direction) direction q) skips

pub overlapping_unsplit_of_copy : OverlappingUnsplitOfCopy
overlapping_unsplit_of_copy t u c skips direction q bytes = grind (arith, common_steps, overlapping_of_copy_holds)

-- ---- joined

joined_alike : (f g r s : Query → HalfAnswer) → AnswerAlike f g → AnswerAlike r s → (always : Bool)
    → AnswerAlike (joined_search f r always) (joined_search g s always)
joined_alike f g r s ends starts always q bytes = grind (arith, common_steps)

pub join_of_tables : JoinOfTables
join_of_tables f r b c serves serves_reverse q bytes = search (rules, joined_alike, half_unsplit_of_table)

-- two tables' searches, joined as flags say
abbrev join_by : Flags → Table → Table → Query → Answer
join_by flags f r q =
    joined_search (unsplit flags.skips_forward (half_search f.machine f.settings Direction.Forward) Direction.Forward)
    (unsplit flags.skips_reverse (half_search r.machine r.settings Direction.Reverse) Direction.Reverse)
    flags.always_anchored q

pub join_of_copies : JoinOfCopies
join_of_copies f g r s c d flags q bytes =
    let own = flags_of f r in
    let forward = half_search f.machine f.settings Direction.Forward in
    let other = half_search g.machine g.settings Direction.Forward in
    let reverse = half_search r.machine r.settings Direction.Reverse in
    let other_reverse = half_search s.machine s.settings Direction.Reverse in
    let ends = unsplit_alike own.skips_forward forward other (half_of_copy_holds f g c Direction.Forward)
    Direction.Forward in
    let starts = unsplit_alike own.skips_reverse reverse other_reverse (half_of_copy_holds r s d Direction.Reverse)
    Direction.Reverse in
    joined_alike (unsplit own.skips_forward forward Direction.Forward)
    (unsplit own.skips_forward other Direction.Forward) (unsplit own.skips_reverse reverse Direction.Reverse)
    (unsplit own.skips_reverse other_reverse Direction.Reverse) ends starts own.always_anchored q bytes
    ∙ ap (λ v. join_by v g s q) flags

-- ---- one after another

iterated_alike : (f g : Query → Answer) → AnswerAlike f g → (q : Query) → AreBytes q.haystack
    → iterate f q ≡ iterate g q
iterated_alike f g alike q bytes = iterate_alike f g q q (λ start. alike (record q { start = start }) bytes) refl refl

pub iterate_of_tables : IterateOfTables
iterate_of_tables f r b c serves serves_reverse q bytes = search (rules, iterated_alike, join_of_tables)

pub iterate_of_copies : IterateOfCopies
iterate_of_copies f g r s c d flags q bytes = search (rules, iterated_alike, join_of_copies)

-- ---- the tables of a plan

module _ (p : Plan) (es : List Expression) (f r : Table) (serve : ServePlan p es f r) where
  -- they answer what its two powerset machines do, joined
  tables_join : (q : Query) → AreBytes q.haystack → join f r q ≡ plan_search p es q
  tables_join q bytes =
      let b = plan_build p Direction.Forward es in
      let c = plan_build p Direction.Reverse es in
      let flags = λ (anchored skips skips_reverse : Bool).
      let all : Flags = record {
        always_anchored = anchored;
        skips_forward = skips;
        skips_reverse = skips_reverse;
      } in
      build_join all b c q in
      join_of_tables f r b c serve.forward serve.reverse q bytes
      ∙ ap (λ v. flags v (skips_splits f) (skips_splits r)) serve.anchored
      ∙ ap₂ (flags _) serve.whole serve.whole_reverse

  forward_tells : (q : Query) → AreBytes q.haystack
      → half_unsplit f Direction.Forward q ≡ build_half_search (plan_build p Direction.Forward es) Direction.Forward q
  forward_tells q bytes =
      let b = plan_build p Direction.Forward es in
      half_unsplit_of_table f b serve.forward Direction.Forward q bytes
      ∙ ap (λ v. build_half_unsplit v b Direction.Forward q) serve.whole

pub found_by_tables : FoundByTables
found_by_tables p es f r safe serve q bytes inside =
    tables_join p es f r serve (record q { earliest = false }) bytes ∙ joined_search_holds p es q safe bytes inside

pub end_by_tables : EndByTables
end_by_tables p es f r safe serve q end bytes inside told =
    let joined = joined_end_holds p es q end safe bytes inside (sym (forward_tells p es f r serve q bytes) ∙ told) in
    (joined.0, tables_join p es f r serve q bytes ∙ joined.1, joined.2)

pub tables_agree : TablesAgree
tables_agree p es f r safe serve q end start bytes inside e =
    never_mismatched_holds p es q end start safe bytes inside (sym (tables_join p es f r serve q bytes) ∙ e)
