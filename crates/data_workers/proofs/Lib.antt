pub mod Growing
pub mod NextEntry
pub mod ToldLogs
pub mod Public
