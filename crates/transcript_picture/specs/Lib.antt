pub mod Standing
pub mod Transcripts
pub mod inside
