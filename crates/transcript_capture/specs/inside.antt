-- What serves private functions alone.
pub mod Taking
pub mod Heading
pub mod Holding
pub mod Parts
pub mod Recorded
