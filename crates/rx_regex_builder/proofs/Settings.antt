-- Settings that are taken over where nothing was set stay as they are.
use Rattle.rx_spec.proofs.Prelude.{◌≡◌, Option, Some, None, refl, ap₂, ◌∙◌, option_or}
use Rattle.rx_expr.specs.Settings as nfa
use Rattle.rx_build.specs.Builders.{Both}
use Rattle.rx_build.specs.Settings as tables
use Rattle.rx_regex_builder.specs.Pairs.{taken}

kept : {X : Type 0} (o : Option X) → option_or o None ≡ o
kept None = refl
kept (Some x) = refl

pub tables_kept : (a : tables.Asked) → tables.overwritten tables.nothing_asked a ≡ a
tables_kept a =
    rw (
      kept a.accelerate,
      kept a.minimize,
      kept a.match_kind,
      kept a.start_kind,
      kept a.pattern_starts,
      kept a.byte_classes,
      kept a.unicode_word,
      kept a.quit,
      kept a.mark_starts,
      kept a.dfa_size_limit,
      kept a.determinize_size_limit,
    )
    refl

pub nfa_kept : (a : nfa.Asked) → nfa.overwritten nfa.nothing_asked a ≡ a
nfa_kept a = rw (kept a.reverse, kept a.is_utf8, kept a.size_limit, kept a.line_terminator) refl

pub taken_whole : {x : tables.Asked} {y : nfa.Asked} {both : Both} → x ≡ both.dense → y ≡ both.thompson
    → taken x y ≡ both
taken_whole {both = both} of_tables of_nfas =
    ap₂ (λ (x : tables.Asked) (y : nfa.Asked). taken x y) of_tables of_nfas
    ∙ ap₂ (λ (x : tables.Asked) (y : nfa.Asked). record { dense = x; thompson = y }) (tables_kept both.dense)
    (nfa_kept both.thompson)
