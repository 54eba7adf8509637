use Rattle.rx_spec.proofs.Prelude.{◌≡◌, ◌+◌, ◌==◌, drop, prefix_len}
use Rattle.rx_dense_image.proofs.head.nul_len.Given as goal

abbrev pub invariant-loop-i : goal.invariant-loop-i
invariant-loop-i l = prefix_len (λ byte. byte == 0) l.bytes ≡ l.i + prefix_len (λ byte. byte == 0) (drop l.i l.bytes)
