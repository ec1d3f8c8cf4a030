-- What a reader reads, in this order: runs, what they tell, the life of a station, packet numbers,
-- what an event shows, when it may come, and which runs are legal; then premises on runs, and parts
-- of runs.
pub mod Run
pub mod Ledgers
pub mod Lives
pub mod Claims
pub mod Expected
pub mod Types
pub mod Order
pub mod Legal
pub mod Counted
pub mod Places
pub mod TypedFacts
pub mod Fresh
pub mod Keys
pub mod Stops
pub mod Suited
pub mod Unstopped
pub mod Standing
pub mod Parts
pub mod Noting
pub mod Answers
pub mod Batches
pub mod inside
