-- What serves private functions alone.
pub mod Comes
pub mod Choosing
pub mod Doing
pub mod Telling
pub mod Turning
