mod Times
mod PacketsOf
mod OneFact
mod Ends
pub mod Public
