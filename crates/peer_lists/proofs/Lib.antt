mod Examples
pub mod Identifiers
pub mod Ascending
pub mod TableRows
pub mod Finds
pub mod Pasts
pub mod Refusals
pub mod Changes
pub mod Shown
pub mod Numbers
pub mod Stands
pub mod Staying
pub mod EveryHistory
pub mod AtMost
pub mod Public
