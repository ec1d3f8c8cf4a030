-- What a reader reads, in this order: what is written of two groups, and how a trace of them is
-- performed. How a run of it ends is `Runs` of `replay`.
pub mod Written
pub mod TwoGroups
pub mod inside
