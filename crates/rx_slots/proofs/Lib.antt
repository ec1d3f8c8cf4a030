pub mod Examples
pub mod Greatest
pub mod Identifiers
pub mod Lists
pub mod Lowest
pub mod Numbering
pub mod Replays
pub mod Steps
