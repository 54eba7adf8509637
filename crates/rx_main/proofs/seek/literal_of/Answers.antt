use Rattle.rx_image.specs.Pairs.{Pair}
use Rattle.rx_main.proofs.LiteralImages.{of_tables}
use Rattle.rx_main.proofs.seek.literal_of.Goals as goal

pub returns-in-Ok-Dense-default : goal.returns-in-Ok-Dense-default
returns-in-Ok-Dense-default c =
    of_tables c.args.image.now (Pair.Dense c.in-Ok-Dense-default.forward c.in-Ok-Dense-default.reverse)
    (rw c.in-Ok-Dense-default.field-0-0-is at c.in-Ok-Dense-default.ensures.read) c.only_literal.result
    (rw (c.new.ensures.forward, c.new.ensures.reverse) at c.only_literal.ensures.searches) c.only_literal.ensures.some

pub returns-in-Ok-Sparse-default : goal.returns-in-Ok-Sparse-default
returns-in-Ok-Sparse-default c =
    of_tables c.args.image.now (Pair.Sparse c.in-Ok-Sparse-default.forward c.in-Ok-Sparse-default.reverse)
    (rw c.in-Ok-Sparse-default.field-0-0-is at c.in-Ok-Sparse-default.ensures.read)
    c.only_literal-in-Ok-Sparse-default.result
    (rw (c.new-in-Ok-Sparse-default.ensures.forward, c.new-in-Ok-Sparse-default.ensures.reverse)
    at c.only_literal-in-Ok-Sparse-default.ensures.searches)
    c.only_literal-in-Ok-Sparse-default.ensures.some
