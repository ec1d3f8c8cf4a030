pub mod Behind
pub mod Each
pub mod Fitting
pub mod Mapped
pub mod Moved
pub mod Sealing
pub mod Tagged
mod Examples
