-- Definitions that serve private functions alone.
pub mod Counters
