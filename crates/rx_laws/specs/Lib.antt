-- laws: what a reader expects of the definitions
pub mod EndsLaws
pub mod FoundLaws
pub mod RowsLaws
pub mod StatesLaws
pub mod ClassesLaws
pub mod BuildsLaws
pub mod TablesLaws
pub mod SearchesLaws
-- examples: questions that the definitions answer by computing
pub mod Samples
pub mod AssertionExamples
pub mod ExpressionExamples
pub mod FoundExamples
pub mod RowExamples
pub mod ClassExamples
pub mod StateExamples
pub mod SizeExamples
pub mod SearchExamples
pub mod OverlappingExamples
pub mod TableExamples
pub mod SplitExamples
