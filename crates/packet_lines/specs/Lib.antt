-- What a reader reads, in this order: where a file is broken off or refused, and how it is told packet
-- by packet.
pub mod Files
pub mod Telling
pub mod inside
