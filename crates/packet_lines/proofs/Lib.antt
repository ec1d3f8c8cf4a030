pub mod Records
pub mod Steps
pub mod Ends
mod Examples
