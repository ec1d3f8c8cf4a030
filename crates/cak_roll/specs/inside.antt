-- Definitions that serve private functions alone.
pub mod Following
pub mod Parts
pub mod Noting
pub mod Sides
pub mod Turns
