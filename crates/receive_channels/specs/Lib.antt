-- What a reader reads, in this order: what one step makes of the channels and tells, and what holds after
-- steps.
pub mod Channels
pub mod Histories
pub mod inside
