-- Definitions that serve private functions alone.
pub mod Repeats
pub mod Drawing
pub mod Seats
pub mod Shown
pub mod Faults
pub mod Judging
pub mod Judge
pub mod Limits
pub mod Following
