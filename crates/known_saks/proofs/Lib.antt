pub mod Noted
mod Examples
