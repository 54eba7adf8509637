-- An input as a query of the definitions.
use Rattle.rx_spec.specs.Queries.{Query}
use Rattle.rx_base.specs.declared.input.Input.{Input}
use Rattle.rx_base.specs.Search.{mode_of}

abbrev pub query_of : Input → Query
query_of input = record {
  haystack = input.haystack.now;
  start = input.span.start;
  end = input.span.end;
  mode = mode_of input.anchored;
  earliest = input.earliest;
}
