pub mod Rows
pub mod Found
pub mod Due
pub mod Saying
pub mod Turns
pub mod Quiet
pub mod Reached
