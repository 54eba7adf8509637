use Rattle.rx_spec.proofs.Prelude.{◌≡◌, ap₂, subst, ◌∙◌}
use Rattle.std.specs.Result.{IfOk}
use Rattle.rx_dense.specs.Builder.{initial}
use Rattle.rx_dense.specs.Layouts.{Layout}
use Rattle.rx_determinize.specs.Begun.{classes_of}
use Rattle.rx_expr.specs.Nfa.{meaning}
use Rattle.rx_build.proofs.dense.builder.Builder.begin.Goals as goal

pub returns : goal.returns
returns c =
    let nfa = meaning c.args.nfa.now in
    let classes =
    c.in_ok-byte_classes.ensures ∙ ap₂ (λ quit own. classes_of nfa quit own) c.requires c.get_byte_classes.ensures in
    subst (λ (l : Layout). IfOk c.initial.result (λ dfa. dfa ≡ l))
    (λ i. initial (record {
      classes = classes i;
      pattern_len = c.pattern_len.ensures i;
      start_kind = c.get_starts.ensures i;
      line_terminator = c.look_matcher.ensures i;
      pattern_starts = c.get_starts_for_each_pattern.ensures i;
      quit = c.requires i;
      flags = record {
        has_empty = c.has_empty.ensures i;
        is_utf8 = c.is_utf8.ensures i;
        is_always_start_anchored = c.is_always_start_anchored.ensures i;
      };
    }))
    c.initial.ensures
