-- Forward searches that told nothing yet.
use Rattle.rx_spec.proofs.Prelude.{◌≡◌, ◌≢◌, ℕ, ◌+◌, slice_index, ◌∙◌, arith, Query, IsFit, Table}
use Rattle.rx_search.proofs.Standing.{Standing}
use Rattle.rx_search.proofs.Walks.{IsQuiet}
use Rattle.rx_prefilter.specs.Literals.{IsGoing}
use Rattle.rx_prefilter.proofs.Looking.{walk_on}

-- one byte on, to a row that tells nothing either
pub going_on : {t : Table} {q : Query} {row offset next : ℕ} → Standing t next → IsQuiet t next → IsFit q
    → IsGoing t q row offset → offset ≢ q.end → next ≡ t.machine.next row (slice_index q.haystack offset)
    → IsGoing t q next (offset + 1)
going_on {t} {q} {row} {offset} {next} s quiet fits going more leads =
    let low = going.in_span.low in
    let high = going.in_span.high in
    record {
      in_span = record { low = omega arith; high = omega arith };
      answer =
          going.answer
          ∙ walk_on
          (record {
            place = record { fits = fits.within; in_span = going.in_span };
            more = more;
            turn = record { leads = leads; standing = s };
          })
          quiet;
    }
