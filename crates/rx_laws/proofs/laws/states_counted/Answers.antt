use Rattle.rx_spec.proofs.Prelude.{List, length, State, determinizer_size, label_total, table_size, last_id, max_id}
use Rattle.rx_spec.specs.Sizes.{start_entries, build_stride}
use Rattle.rx_spec.specs.Causes.{sparse_length}
use Rattle.rx_lemmas.proofs.Sizes.{reached_count, exceeds_exactly, determinizer_grows, labels_grow, table_grows}
use Rattle.rx_lemmas.proofs.Sizes.{ids_grow, length_grows}
use Rattle.rx_laws.proofs.laws.states_counted.Goals as goal

pub returns : goal.returns
returns c = record {
  count = reached_count;
  exceeds = exceeds_exactly;
  too_many_states =
      λ b l states all.
      let stride = build_stride b l.byte_classes in
      exceeds_exactly b (λ reached. last_id (length reached) stride) max_id states (ids_grow stride) all;
  too_many_patterns = λ b states all. exceeds_exactly b label_total max_id states labels_grow all;
  too_long_rows = λ b l states all. exceeds_exactly b (sparse_length l b) max_id states (length_grows l b) all;
  too_large =
      λ b l limit states all.
      let stride = build_stride b l.byte_classes in
      let size = λ (reached : List State). table_size (length reached) stride (start_entries b) in
      exceeds_exactly b size limit states (table_grows stride (start_entries b)) all;
  too_costly = λ b limit states all. exceeds_exactly b determinizer_size limit states determinizer_grows all;
}
