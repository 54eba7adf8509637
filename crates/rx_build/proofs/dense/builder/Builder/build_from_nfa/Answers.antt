use Rattle.rx_spec.proofs.Prelude.{refl, subst, sym}
use Rattle.rx_dense.specs.Builder.{HasUniversalStarts}
use Rattle.rx_dense.specs.Layouts.{Layout, table_of}
use Rattle.rx_expr.specs.Nfa.{meaning}
use Rattle.rx_build.specs.Built.{IsBuilt, begun, build_of}
use Rattle.rx_build.specs.Making.{IsMade, Stage}
use Rattle.rx_build.specs.Settings.{asked, settled}
use Rattle.rx_build.proofs.Stages.{built_with_starts}
use Rattle.rx_build.proofs.dense.builder.Builder.build_from_nfa.Goals as goal

pub mark_starts-requires-clause-in_order : goal.mark_starts-requires-clause-in_order
mark_starts-requires-clause-in_order c = (c.in_ok-join_rows.ensures _ _ c.in_ok-dfa.ensures.made).in_order

pub mark_starts-requires-clause-plain : goal.mark_starts-requires-clause-plain
mark_starts-requires-clause-plain c = (c.in_ok-join_rows.ensures _ _ c.in_ok-dfa.ensures.made).plain refl

pub find_needles-requires-clause-joined : goal.find_needles-requires-clause-joined
find_needles-requires-clause-joined c =
    let made = c.in_ok-join_rows.ensures _ _ c.in_ok-dfa.ensures.made in
    (c.mark_starts.ensures.made _ _ _ made).joined

pub returns-clause-ok : goal.returns-clause-ok
returns-clause-ok c =
    let s = settled (asked c.args.self.now.config) in
    let nfa = meaning c.args.nfa.now in
    let joined = c.in_ok-join_rows.ensures _ _ c.in_ok-dfa.ensures.made in
    let marked = c.mark_starts.ensures.made _ _ _ joined in
    let made = c.in_ok-find_needles.ensures _ _ _ _ marked in
    let by_settings =
    subst (λ (stage : Stage). IsMade (build_of s nfa) stage (begun s nfa) c.find_needles.new.dfa)
    (λ i. record {
      minimize = c.get_minimize.ensures i;
      mark_starts = c.get_specialize_start_states.ensures i;
      accelerate = c.get_accelerate.ensures i;
    })
    made in
    let is = c.set_universal_starts.ensures.value in
    let has = subst (λ (l : Layout). HasUniversalStarts (table_of l)) is c.set_universal_starts.ensures.rows in
    let built = subst (IsBuilt s nfa) (sym is) (built_with_starts s nfa by_settings has) in
    subst (IsBuilt s nfa) (sym c.in_ok-table.ensures) built
