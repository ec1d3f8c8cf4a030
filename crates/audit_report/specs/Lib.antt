-- What a reader reads, in this order: what is told of a packet; how many there are of each kind; lines,
-- those of keys set by hand, those of packets, of keys and senders, of changes, of members that were not
-- ready and of all members; what is judged; and the report.
pub mod Told
pub mod Tallies
pub mod Lines
pub mod Packets
pub mod Uses
pub mod Unknown
pub mod inside
pub mod Changes
pub mod Readiness
pub mod Members
pub mod Verdicts
pub mod Report
