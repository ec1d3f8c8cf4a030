-- What a reader reads: the summary of facts.
pub mod Summary
pub mod inside
