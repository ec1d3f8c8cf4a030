-- What a reader reads, in this order: what the key text says, and how it is read.
pub mod Rings
pub mod Reading
pub mod inside
