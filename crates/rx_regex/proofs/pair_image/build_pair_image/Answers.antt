use Rattle.rx_regex.proofs.PairImages.{is_pair_image}
use Rattle.rx_regex.proofs.pair_image.build_pair_image.Goals as goal

pub returns-in_ok-pair_image-in-Dense-clause-ok : goal.returns-in_ok-pair_image-in-Dense-clause-ok
returns-in_ok-pair_image-in-Dense-clause-ok c =
    is_pair_image c.args.order c.in_ok-pair_image-in-Dense.field-0.items c.in_ok-built-in-Dense.ensures.ok
    c.in_ok-built-in-Dense.ensures.written.writable.whole c.in_ok-pair_image-in-Dense.ensures

pub returns-in_ok-pair_image-in-Sparse-clause-ok : goal.returns-in_ok-pair_image-in-Sparse-clause-ok
returns-in_ok-pair_image-in-Sparse-clause-ok c =
    is_pair_image c.args.order c.in_ok-pair_image-in-Sparse.field-0.items c.in_ok-built-in-Sparse.ensures.ok
    c.in_ok-built-in-Sparse.ensures.written.writable.whole c.in_ok-pair_image-in-Sparse.ensures
