pub mod Answering
pub mod Faults
pub mod InForm
pub mod Plain
pub mod Shared
mod Examples
