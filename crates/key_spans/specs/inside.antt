-- What serves private functions alone.
pub mod Taking
pub mod Ruling
pub mod Seating
pub mod Sending
