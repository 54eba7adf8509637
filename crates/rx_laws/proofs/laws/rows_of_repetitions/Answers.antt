use Rattle.rx_spec.proofs.Prelude.{refl, compile, copies, optional}
use Rattle.rx_laws.proofs.RowsLaws.{needed_round, optional_round, loop_alone}
use Rattle.rx_laws.proofs.laws.rows_of_repetitions.Goals as goal

pub returns : goal.returns
unfolding compile copies optional
returns c = record {
  needed_round = λ n most greedy body. needed_round n most greedy (compile body);
  no_rounds = λ greedy body base next. refl;
  optional_round = λ n greedy body. optional_round n greedy (compile body);
  without_end = λ greedy body. loop_alone greedy (compile body);
}
