-- Frames that are told, announcements that can be read, lives, and what makes a rollover steady;
-- then the two rollovers, computed.
pub mod Framing
pub mod Readable
pub mod Lived
pub mod Steadily
pub mod Late
pub mod Missed
