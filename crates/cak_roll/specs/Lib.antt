-- What a reader reads, in this order: twin runs, what holds over the runs of both groups together,
-- what an event shows and what stops it, and when it is unstopped; then what a twin holds, for which
-- twin runs it stands, and what it answers.
pub mod Twin
pub mod Both
pub mod Stepping
pub mod Unstopped
pub mod Standing
pub mod Answers
pub mod inside
