-- What a reader reads, in this order: numbers of the pcap format, which packets a file has,
-- and the line that tells a packet.
pub mod Pcap
pub mod Records
pub mod Describing
