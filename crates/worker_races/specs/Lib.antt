-- What a reader reads, in this order: what words say, how those of all stations go through a race,
-- what control performed, who the workers are, and what is known of a race in the end.
pub mod Reading
pub mod Going
pub mod Performed
pub mod Senders
pub mod Beside
pub mod Carded
pub mod merge
