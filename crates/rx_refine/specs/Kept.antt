-- The lists that a partition keeps.
use Rattle.rx_refine.specs.declared.partition.Partition.{Partition}
use Rattle.rx_refine.specs.Parts.{Parts}

abbrev pub parts : Partition → Parts
parts p =
    record {
      rows = p.rows.items;
      places = p.places.items;
      blocks = p.blocks.items;
      starts = p.starts.items;
      sizes = p.sizes.items;
      marks = p.marks.items;
    }
