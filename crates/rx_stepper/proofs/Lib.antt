-- what proofs take from other modules
pub mod Prelude
-- closures: thin rows, the members of lists, and the searches of the rows with stamps
pub mod ThinLists
pub mod Members
pub mod StampedSearch
-- the columns that rows read, and their groups
pub mod ByteWords
pub mod ReadColumns
pub mod ListedColumns
pub mod GroupLists
pub mod TargetLists
pub mod Results
pub mod EmptyLists
pub mod UnitCounts
pub mod UnitLists
-- what decides assertions
pub mod Decisions
-- lists without the members of others, and rows that end with those of the lead-in
pub mod Without
pub mod WrittenRows
pub mod LedSteps
pub mod LeadPlaces
pub mod LeadSplits
-- states as keys
pub mod KeyLaws
pub mod MadeKeys
pub mod LeadClosing
-- steps of a state
pub mod StepLaws
pub mod GroupLoop
-- the parts of a stepper
pub mod StepperParts
pub mod ColumnSteps
-- columns by which the lead-in alone goes on
pub mod LoneSteps
