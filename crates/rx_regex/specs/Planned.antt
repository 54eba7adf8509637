-- Pairs of tables that are built as a plan's are, by settings of a caller.
use Rattle.std.specs.Prelude.{ℕ, ◌≡◌, ◌≤◌, false, Some, Ok, Err, List, length, All}
use Rattle.rx_spec.specs.Bytes.{AreBytes}
use Rattle.rx_spec.specs.Expressions.{Expression, IsLoopSafe}
use Rattle.rx_spec.specs.Joining.{match_at}
use Rattle.rx_plan.specs.Plans.{Plan, outcome}
use Rattle.rx_spec.specs.Queries.{Query, HalfMatch, MatchError}
use Rattle.rx_spec.specs.Splits.{half_unsplit}
use Rattle.rx_spec.specs.declared.Direction.{Direction}
use Rattle.rx_spec.specs.declared.Form.{Form}
use Rattle.rx_spec.specs.declared.MatchKind.{MatchKind}
use Rattle.rx_build.specs.Builders.{Both}
use Rattle.rx_build.specs.Settings as dense
use Rattle.rx_expr.specs.Settings as thompson
use Rattle.rx_meaning.specs.Joined.{IsMatch}
use Rattle.rx_meaning.specs.Tables.{ServePlan}
use Rattle.rx_regex.specs.Find.{IsPaired}
use Rattle.rx_image.specs.Pairs.{Pair}
use Rattle.rx_regex.specs.Pairs.{AreBuilt, forward_table, joined, reverse_table, whole}

-- The expressions are read forward, the preferred match is told, and it may begin and end anywhere.
pub record IsPlanned (both : Both) : Type 0 where
  pub kind : (dense.settled both.dense).match_kind ≡ MatchKind.LeftmostFirst
  pub forward : (thompson.settled both.thompson).direction ≡ Direction.Forward
  pub anywhere : (thompson.settled both.thompson).is_utf8 ≡ false

-- the plan that asks for these settings; what its search answers isn't a matter of the form
abbrev pub planned : Both → Plan
planned both =
    let tables = dense.settled both.dense in
    let nfas = thompson.settled both.thompson in
    record {
      start_kind = tables.start_kind;
      pattern_starts = tables.pattern_starts;
      byte_classes = tables.byte_classes;
      quit = tables.quit;
      unicode_word = tables.unicode_word;
      line_terminator = nfas.line_terminator;
      nfa_limit = nfas.size_limit;
      dfa_limit = tables.dfa_size_limit;
      determinize_limit = tables.determinize_size_limit;
      minimize = tables.minimize;
      accelerate = tables.accelerate;
      mark_starts = tables.mark_starts;
      form = Form.Dense;
    }

-- They answer what the expressions say: the leftmost match, there the lowest pattern, and its preferred end; or what
-- refuses or ends the forward search. So dense tables and sparse ones answer the same.
abbrev pub PairsFind : Type 0
PairsFind = (both : Both) (es : List Expression) (pair : Pair) → IsPlanned both → All IsLoopSafe es
    → AreBuilt both es pair → (q : Query) → AreBytes q.haystack → q.end ≤ length q.haystack
    → joined pair (whole q) ≡ outcome (planned both) es q

-- A pair that is built so serves the plan: each table gives the plan's build, and passes over no match that splits a
-- character. So what `rx_meaning` says of tables that serve a plan holds of it.
abbrev pub PairsServe : Type 0
PairsServe = (both : Both) (es : List Expression) (pair : Pair) → IsPlanned both → AreBuilt both es pair
    → ServePlan (planned both) es (forward_table pair) (reverse_table pair)

-- Where the forward search tells an end, also the first one that it meets, the pair answers a match of that pattern
-- that ends there. So the search in reverse meets no quit byte, and finds the same pattern.
abbrev pub PairsEnd : Type 0
PairsEnd = (both : Both) (es : List Expression) (pair : Pair) → IsPlanned both → All IsLoopSafe es
    → AreBuilt both es pair → (q : Query) → AreBytes q.haystack → q.end ≤ length q.haystack
    → (end : HalfMatch) → half_unsplit (forward_table pair) Direction.Forward q ≡ Ok (Some end)
    → (start : ℕ) × (joined pair q ≡ match_at end.pattern start end.offset)
    × IsMatch es (planned both).line_terminator q end.pattern start end.offset

-- Any error is the forward search's, whether or not the first match met will do. The two never disagree.
abbrev pub PairsAgree : Type 0
PairsAgree = (both : Both) (es : List Expression) (pair : Pair) → IsPlanned both → All IsLoopSafe es
    → AreBuilt both es pair → (q : Query) → AreBytes q.haystack → q.end ≤ length q.haystack
    → (error : MatchError) → joined pair q ≡ Err error
    → (half_unsplit (forward_table pair) Direction.Forward q ≡ Err error) × IsPaired error
