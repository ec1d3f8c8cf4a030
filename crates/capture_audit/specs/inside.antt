-- What serves private functions alone.
pub mod Keeping
pub mod Batches
pub mod Auditing
pub mod Viewing
pub mod Reporting
