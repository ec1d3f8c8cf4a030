pub mod Cmac
pub mod Progress
