-- what proofs take from other modules
pub mod Prelude
-- numbers below a bound: the places of a value in a list, and sums
pub mod Places
pub mod Totals
-- tables: rows grouped by a key (groups.rt), columns (columns.rt, table.rt), and the rows led to some rows
pub mod GroupedRows
pub mod TableColumns
pub mod Sources
-- partitions: where blocks begin, which rows they have, and how many there are of each
pub mod Blocks
pub mod RowCounts
-- one block is split by a list of rows: a row is marked, a block's marked rows become a block, and all blocks do so
pub mod MarkedRow
pub mod SplitBlock
pub mod MarkedHalves
pub mod SplitByHits
-- all blocks are split by keys: the keys (keys.rt), the key that most rows have and the numbers of the others
-- (numbers.rt), block by block, and the blocks that are made of these numbers
pub mod NextKeys
pub mod LeadingKey
pub mod NumberedRows
pub mod NumberedParts
pub mod RegroupedParts
-- the refinement (hopcroft.rt): why the blocks are right, how many reads there are, and what holds before each turn
pub mod RefinedBlocks
pub mod ReadCosts
pub mod Sweeps
