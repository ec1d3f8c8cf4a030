-- What transmits at a station follows the facts: the changes of a life's keys, then turns, events and
-- what a group that stands for a run says; the account of a station, keys that were installed.
pub mod Carrying
pub mod Turning
pub mod Moving
pub mod Known
pub mod Accounting
pub mod Growing
pub mod Starting
pub mod Installing
mod Examples
