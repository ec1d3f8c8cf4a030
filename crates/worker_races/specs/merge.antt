-- What a reader reads, in this order: steps, attempts and their places, the merged list, what a
-- race is over runs, what its part is woven of, and how control and the logs give all that a race
-- asks.
pub mod Places
pub mod Marks
pub mod Ranks
pub mod Merged
pub mod Raced
pub mod Weaving
pub mod Steps
pub mod Taking
pub mod Sealing
pub mod Given
pub mod Words
pub mod Table
pub mod Worked
pub mod inside
