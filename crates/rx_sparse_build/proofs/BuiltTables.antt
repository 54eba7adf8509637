-- A built table can be written and read again.
use Rattle.rx_spec.proofs.Prelude.{◌≡◌, ℕ, ◌^◌, ◌<◌, ◌&&◌, Bool, true, false, if◌then◌else◌, sym, ap, subst, arith}
use Rattle.rx_spec.proofs.Prelude.{bit_or, or_lt, between, Nfa}
use Rattle.rx_spec.specs.Classes.{has_unicode_word, quit_set}
use Rattle.rx_dense.specs.Layouts.{IsShaped, Layout}
use Rattle.rx_build.specs.Built.{IsBuilt}
use Rattle.rx_build.specs.Settings.{Settled}
use Rattle.rx_dense_image.specs.Images.{IsWhole}
use Rattle.rx_sparse_build.proofs.Whole.{whole}

pub few_quits : (nfa : Nfa) (quit : ℕ) (heuristic : Bool) → quit < 2 ^ 256 → quit_set nfa quit heuristic < 2 ^ 256
few_quits nfa quit heuristic few = by_test (heuristic && has_unicode_word nfa)
  where
    by_test : (b : Bool) → (if b then bit_or quit (between 128 255) else quit) < 2 ^ 256
    by_test true = or_lt 256 quit (between 128 255) few (omega arith)
    by_test false = few

pub built_whole : (s : Settled) (nfa : Nfa) (l : Layout) → s.quit < 2 ^ 256 → IsShaped l
    → IsBuilt s nfa l → IsWhole l
built_whole s nfa l few shaped is =
    let quit : l.quit ≡ quit_set nfa s.quit s.unicode_word = ap (λ (m : Layout). m.quit) is.rest in
    whole l
    (record {
      shaped = shaped;
      in_order = is.in_order;
      joined = is.joined;
      counted = is.counted;
      universal = is.universal_ids;
      quit = subst (λ (n : ℕ). n < 2 ^ 256) (sym quit) (few_quits nfa s.quit s.unicode_word few);
    })
