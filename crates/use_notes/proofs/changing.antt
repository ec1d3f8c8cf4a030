pub mod First
pub mod Passing
pub mod Putting
pub mod Listing
pub mod Examples
