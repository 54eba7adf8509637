use Rattle.rx_spec.proofs.Prelude.{◌≡◌, HalfAnswer, Query, IsFit, split_limit}
use Rattle.rx_base.specs.Input.{query_of}
use Rattle.rx_search.specs.SplitSearches.{unsplit_from}
use Rattle.rx_search.specs.Walks.{IsInSpan}
use Rattle.rx_search.proofs.splits.skip_splits.Given as goal

abbrev pub invariant-splits : goal.invariant-splits
invariant-splits g l =
    let q = query_of l.input in
    let now = record q { start = l.span.start; end = l.span.end } in record {
      fits : IsFit now;
      in_span : IsInSpan now l.found.offset;
      told : (answers : Query → HalfAnswer)
          → ((at : _) (told : _) → IsFit (query_of at.now) → goal.F-post g l.search at told
          → told ≡ answers (query_of at.now))
          → unsplit_from answers l.direction q l.fn.first ≡ unsplit_from answers l.direction now l.found;
    }

abbrev pub decreases-splits : goal.decreases-splits
decreases-splits g l = split_limit (record (query_of l.input) { start = l.span.start; end = l.span.end })
