use Rattle.rx_spec.proofs.Prelude.{IfErr, sym, ap, ◌∙◌, subst}
use Rattle.rx_base.specs.Input.{query_of}
use Rattle.rx_regex.specs.Find.{IsPaired}
use Rattle.rx_regex.specs.Forms.{pair_of}
use Rattle.rx_regex.specs.Pairs.{AreTables, IsPair, joined, whole}
use Rattle.rx_regex.specs.declared.tables.Tables.{Tables}
use Rattle.rx_regex.proofs.Searches.{outcome_by, paired_by}
use Rattle.rx_regex.proofs.tables.Built.search.Goals as goal

pub returns-in-Dense-clause-answer : goal.returns-in-Dense-clause-answer
returns-in-Dense-clause-answer c p es tables =
    c.try_search.ensures.answer
    ∙ (ap (joined (pair_of (Tables.Dense c.in-Dense.pair))) c.whole_search-input.ensures.asked
    ∙ outcome_by (subst (λ (t : Tables). AreTables p es (pair_of t)) c.in-Dense.is tables)
    (query_of c.args.input.now)
    (record { bytes = c.whole_search-input.ensures.bytes; within = c.requires.within }))

pub returns-in-Dense-clause-paired : goal.returns-in-Dense-clause-paired
returns-in-Dense-clause-paired c =
    subst (λ answer. IfErr answer IsPaired)
    (sym (c.try_search.ensures.answer
    ∙ ap (joined (pair_of (Tables.Dense c.in-Dense.pair))) c.whole_search-input.ensures.asked))
    (paired_by (subst (λ (t : Tables). ∥ IsPair (pair_of t) ∥₁) c.in-Dense.is c.args.self.now.planned)
    (whole (query_of c.args.input.now))
    (record { bytes = c.whole_search-input.ensures.bytes; within = c.requires.within }))

pub returns-in-Sparse-clause-answer : goal.returns-in-Sparse-clause-answer
returns-in-Sparse-clause-answer c p es tables =
    c.try_search-in-Sparse.ensures.answer
    ∙ (ap (joined (pair_of (Tables.Sparse c.in-Sparse.pair))) c.whole_search-input.ensures.asked
    ∙ outcome_by (subst (λ (t : Tables). AreTables p es (pair_of t)) c.in-Sparse.is tables)
    (query_of c.args.input.now)
    (record { bytes = c.whole_search-input.ensures.bytes; within = c.requires.within }))

pub returns-in-Sparse-clause-paired : goal.returns-in-Sparse-clause-paired
returns-in-Sparse-clause-paired c =
    subst (λ answer. IfErr answer IsPaired)
    (sym (c.try_search-in-Sparse.ensures.answer
    ∙ ap (joined (pair_of (Tables.Sparse c.in-Sparse.pair))) c.whole_search-input.ensures.asked))
    (paired_by (subst (λ (t : Tables). ∥ IsPair (pair_of t) ∥₁) c.in-Sparse.is c.args.self.now.planned)
    (whole (query_of c.args.input.now))
    (record { bytes = c.whole_search-input.ensures.bytes; within = c.requires.within }))
