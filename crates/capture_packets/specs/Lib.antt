-- What a reader reads, in this order: what a packet is and what is known of a file, records of the
-- classic format, blocks of pcapng, the packets of a file, how they are read from a source, how packets
-- are written, and what a front of a file tells.
pub mod Packets
pub mod Numbers
pub mod Records
pub mod Options
pub mod Blocks
pub mod Captures
pub mod Reading
pub mod Written
pub mod Fronts
pub mod inside
