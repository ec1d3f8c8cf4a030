-- What makes keys known, which are known to a frame, and what breaks of one key.
pub mod Numbered
pub mod History
pub mod Known
pub mod OneKey
pub mod Fronts
pub mod Said
pub mod Telling
pub mod Undecided
pub mod Maps
pub mod Standing
pub mod inside
