-- What serves private functions alone.
pub mod Ended
pub mod Playing
pub mod Summing
