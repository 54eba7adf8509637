use Rattle.rx_spec.proofs.Prelude.{refl}
use Rattle.rx_dense.specs.Builder.{Beginning}
use Rattle.rx_dense.proofs.Marks.{unmarked}
use Rattle.rx_dense.proofs.Shaped.{shaped_initial}
use Rattle.rx_dense.proofs.dfa.build.DFA+Vec+u32.initial.Goals as goal

pub invariant_of-result : goal.invariant_of-result
invariant_of-result c = (rw c.new-4.ensures.items (unmarked _ _ _ _ _ _), tt)

pub invariant_of-result-2 : goal.invariant_of-result-2
invariant_of-result-2 c =
    let b : Beginning = record {
      classes = c.args.classes;
      pattern_len = c.args.pattern_len;
      start_kind = c.args.starts;
      line_terminator = c.args.lookm.now;
      pattern_starts = c.args.pattern_starts;
      quit = c.args.quitset;
      flags = c.args.flags;
    } in
    rw (
      c.in_ok-zeros.ensures,
      c.in_ok-zeros-2.ensures,
      c.two_rows.ensures.value,
      c.start_entries.ensures,
      c.own_starts-own_starts.ensures.value,
      c.contexts.ensures,
      c.new.ensures,
      c.new-2.ensures.items,
      c.new-3.ensures.items,
      c.new-5.ensures.items,
      c.stride2.ensures,
    )
    (shaped_initial b c.two_rows.ensures.are_classes c.requires)

pub returns : goal.returns
returns c =
    rw (
      c.in_ok-zeros.ensures,
      c.in_ok-zeros-2.ensures,
      c.two_rows.ensures.value,
      c.start_entries.ensures,
      c.own_starts-own_starts.ensures.value,
      c.contexts.ensures,
      c.new.ensures,
      c.new-2.ensures.items,
      c.new-3.ensures.items,
      c.new-5.ensures.items,
      c.stride2.ensures,
    )
    refl
