-- What serves private functions alone.
pub mod Once
