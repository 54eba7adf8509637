-- what a plan builds and answers, and the plan of the code
pub mod Plans
pub mod Plan
