-- What tells the high halves of packet numbers, and under which keys, offsets and IVs a frame is tried.
pub mod History
pub mod Candidates
pub mod Missed
pub mod Standing
pub mod inside
