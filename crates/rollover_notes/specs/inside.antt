-- What serves private functions alone.
pub mod Putting
pub mod Giving
pub mod Reporting
pub mod Speaking
pub mod Listing
pub mod Walking
pub mod Saying
