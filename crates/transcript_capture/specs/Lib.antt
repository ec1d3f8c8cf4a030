-- What a reader reads, in this order: the packets of facts, what is recorded of a fact, which lines of
-- a transcript are taken, and how capturing a transcript ends.
pub mod Packets
pub mod Recording
pub mod Lines
pub mod Captures
pub mod inside
