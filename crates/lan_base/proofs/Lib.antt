pub mod Calls
pub mod KeyStream
pub mod Known
pub mod Moves
pub mod Numbering
pub mod Padding
pub mod Public
pub mod Rooms
mod Examples
