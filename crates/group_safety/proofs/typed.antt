-- Facts with their fields in their types: octets of ciphers and codecs, what a station's turns and
-- its receive slots show, and then whole runs.
pub mod OctetsMade
pub mod Announced
pub mod Turns
pub mod Hearings
pub mod Slots
pub mod Runs
