-- What a reader reads, in this order: which frame gives a key, and which keys are given on the air; what
-- the packets of a run are; and what an audit of them says.
pub mod Given
pub mod Captured
pub mod Clean
