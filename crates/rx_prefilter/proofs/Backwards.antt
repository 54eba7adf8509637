-- Walks in reverse over a literal.
use Rattle.rx_spec.proofs.Prelude.{◌≡◌, ℕ, ◌+◌, ◌-◌, ◌<◌, List, length, slice_index, ap, sym, ◌∙◌, arith, Table}
use Rattle.rx_spec.specs.declared.Direction.{Direction}
use Rattle.rx_search.proofs.Standing.{Standing}
use Rattle.rx_search.proofs.Walks.{IsQuiet, Step}
use Rattle.rx_prefilter.specs.OnlyLiterals.{LeadsBack, back_walk}
use Rattle.rx_prefilter.proofs.Looking.{walk_on}

-- one byte more of it
pub back_more : {t : Table} {literal : List ℕ} (start : ℕ) {left row next : ℕ} → Standing t next → IsQuiet t next
    → left < length literal → next ≡ t.machine.next row (slice_index literal left)
    → LeadsBack t literal start (left + 1) row → LeadsBack t literal start left next
back_more {t} {literal} start {left} {row} {next} s quiet some leads back q at lies =
    let before : at + (left + 1) - 1 ≡ at + left = omega arith in
    back q at lies ∙ walk_on step quiet
    ∙ ap (λ (offset : ℕ). back_walk t q next offset) before
  where
    step : Step t Direction.Reverse q row (at + (left + 1)) next
    step =
        let low = lies.low in
        let high = lies.high in
        let before : at + (left + 1) - 1 ≡ at + left = omega arith in
        record {
          place = record {
            fits = lies.fits;
            in_span = record { low = omega arith; high = omega arith };
          };
          more = λ none. omega arith;
          turn = record {
            leads =
                leads
                ∙ ap (t.machine.next row)
                (sym (lies.occurs.reads left some) ∙ ap (slice_index q.haystack) (sym before));
            standing = s;
          };
        }
