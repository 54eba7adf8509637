-- Four walks over a block: what a byte of each part adds, and how one walk over the block follows from them.
use Rattle.rx_spec.proofs.Prelude.{common_steps, ◌≡◌, ℕ, ◌+◌, ap, ◌∙◌, arith, List, slice_index, row_of, Table}
use Rattle.rx_spec.specs.declared.Direction.{Direction}
use Rattle.rx_search.specs.FourWalks.{AreLed, AreOrdinary, AreWalks}
use Rattle.rx_search.specs.Passing.{Leads}
use Rattle.rx_search.specs.declared.parts.Rows.{Rows}
use Rattle.rx_search.proofs.Passing.{leads_none, leads_more, leads_through}

module _ {t : Table} {ids haystack : List ℕ} {from : ℕ} where
  pub walks_none : (entries : Rows) → AreWalks t ids haystack from 0 entries entries
  walks_none entries = grind (arith, common_steps, leads_none)

  pub walks_more : {count : ℕ} {entries rows next : Rows} → AreWalks t ids haystack from count entries rows
      → AreLed t ids haystack (from + count) rows next → AreOrdinary t ids next
      → AreWalks t ids haystack from (count + 1) entries next
  walks_more {count} {entries} {rows} {next} walks led plain = record {
    first = leads_more t Direction.Forward haystack (row_of ids next.first) walks.first led.first plain.first;
    second = leads_more t Direction.Forward haystack (row_of ids next.second) walks.second
        (led.second ∙ in_part 1024 (row_of ids rows.second)) plain.second;
    third = leads_more t Direction.Forward haystack (row_of ids next.third) walks.third
        (led.third ∙ in_part 2048 (row_of ids rows.third)) plain.third;
    fourth = leads_more t Direction.Forward haystack (row_of ids next.fourth) walks.fourth
        (led.fourth ∙ in_part 3072 (row_of ids rows.fourth)) plain.fourth;
  }
    where
      in_part : (part row : ℕ) → t.machine.next row (slice_index haystack (from + count + part))
          ≡ t.machine.next row (slice_index haystack (from + part + count))
      in_part part row = grind (arith, common_steps)

  module _ {entries exits : Rows} (walks : AreWalks t ids haystack from 1024 entries exits) where
    pub through_two : exits.first ≡ entries.second
        → Leads t Direction.Forward haystack (row_of ids entries.first) from (row_of ids exits.second) 2048
    through_two same =
        leads_through t Direction.Forward haystack walks.first (ap (row_of ids) same) (omega arith) walks.second

    pub through_three : exits.first ≡ entries.second → exits.second ≡ entries.third
        → Leads t Direction.Forward haystack (row_of ids entries.first) from (row_of ids exits.third) 3072
    through_three same same_2 =
        leads_through t Direction.Forward haystack (through_two same) (ap (row_of ids) same_2) (omega arith)
        walks.third

    pub through_four : exits.first ≡ entries.second → exits.second ≡ entries.third → exits.third ≡ entries.fourth
        → Leads t Direction.Forward haystack (row_of ids entries.first) from (row_of ids exits.fourth) 4096
    through_four same same_2 same_3 =
        leads_through t Direction.Forward haystack (through_three same same_2) (ap (row_of ids) same_3) (omega arith)
        walks.fourth
