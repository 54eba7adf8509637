-- what proofs take from other modules
pub mod Prelude
-- the loop that enters all states that are reached
pub mod WorkListLaws
-- a state that is entered
pub mod AddingLaws
-- ids of rows
pub mod RowIds
-- cells and rows that change
pub mod CellLaws
-- columns and their units
pub mod ColumnLaws
-- the classes with which a table is begun
pub mod Columns
-- a construction that goes on
pub mod ContinuesLaws
-- rows that are written
pub mod FillingLaws
-- the state to which a column leads
pub mod NextLaws
-- a state that is stepped by each column
pub mod SteppingLaws
-- rows that begin as those of models
pub mod ModelLaws
-- nodes by their rows, and the patterns that labels name
pub mod NodeLaws
pub mod LabelLaws
-- start entries, and the states in which searches start
pub mod StartLaws
-- the patterns of match rows
pub mod MatchingLaws
-- a table with all states that are reached
pub mod BuiltLaws
-- limits that are passed, or are not
pub mod LimitLaws
-- the start entries of modes
pub mod ModeLaws
