use Rattle.rx_spec.proofs.Prelude.{◌+◌, ◌*◌, arith}
use Rattle.std.proofs.lemmas.List.{get_or_read}
use Rattle.rx_dense.specs.Parts.{layout_of}
use Rattle.rx_dense_image.proofs.StrangerCounts.{IsPair, list_test}
use Rattle.rx_dense_image.proofs.closing.is_list.Goals as goal

pub returns : goal.returns
returns c =
    let l = layout_of c.args.parts.now in
    let pair : IsPair l c.args.i c.index.result.now c.index-2.result.now = record {
      is_first = get_or_read l.slices (2 * c.args.i) _ (omega arith) c.index.ensures 0;
      is_len = get_or_read l.slices (2 * c.args.i + 1) _ c.requires.i c.index-2.ensures 0;
      begins = omega arith;
      ends = omega arith;
      some = c.if-len-eq0.false;
    } in
    list_test pair c.args.counts.now c.requires.counts
