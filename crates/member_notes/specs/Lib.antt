pub mod Mkpdus
pub mod Standing
pub mod Spoken
pub mod Facts
pub mod Speakers
pub mod FactsKept
pub mod inside
