-- What serves private functions alone.
pub mod Appending
pub mod Reading
pub mod Taking
pub mod Naming
pub mod Numerals
pub mod Tables
