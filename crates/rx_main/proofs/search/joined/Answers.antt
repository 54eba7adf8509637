use Rattle.rx_spec.proofs.Prelude.{ap, sym, ◌∙◌, IfOk-weaker}
use Rattle.rx_base.specs.Input.{query_of}
use Rattle.rx_image.specs.Tables.{pair_of}
use Rattle.rx_image.specs.declared.tables.Tables.{Tables}
use Rattle.rx_regex.specs.Pairs.{joined}
use Rattle.rx_main.proofs.search.joined.Goals as goal

pub returns-in-Dense : goal.returns-in-Dense
returns-in-Dense c =
    IfOk-weaker c.joined_by.result _ _
    (λ answer told.
    told ∙ ap (λ (tables : Tables). joined (pair_of tables) (query_of c.args.input.now)) (sym c.in-Dense.is))
    c.joined_by.ensures

pub returns-in-Sparse : goal.returns-in-Sparse
returns-in-Sparse c =
    IfOk-weaker c.joined_by-in-Sparse.result _ _
    (λ answer told.
    told ∙ ap (λ (tables : Tables). joined (pair_of tables) (query_of c.args.input.now)) (sym c.in-Sparse.is))
    c.joined_by-in-Sparse.ensures
