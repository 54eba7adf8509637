use Rattle.rx_spec.proofs.Prelude.{rules}
use Rattle.rx_meaning.proofs.SpanQueries.{span_decides, span_decides_overlapping, span_decides_build}
use Rattle.rx_meaning.proofs.SpanAnswers.{span_decides_unsplit, span_decides_overlapping_unsplit, span_decides_join}
use Rattle.rx_meaning.proofs.SpanAnswers.{span_decides_iterate, span_decides_outcome}
use Rattle.rx_meaning.proofs.bounds.span_decides.Goals as goal

pub returns : goal.returns
returns c =
    search (
      rules,
      span_decides,
      span_decides_unsplit,
      span_decides_overlapping,
      span_decides_join,
      span_decides_build,
      span_decides_overlapping_unsplit,
      span_decides_iterate,
      span_decides_outcome,
    )
