-- What serves private functions alone.
pub mod Seeing
pub mod Lines
pub mod Composing
