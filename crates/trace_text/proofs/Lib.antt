pub mod Answering
pub mod Characters
pub mod Decoding
pub mod Digits
pub mod Faults
pub mod Finding
pub mod InForm
pub mod Listing
pub mod RoundTrip
pub mod Spacing
pub mod Spelling
pub mod Taking
mod Examples
pub mod twin_lines
pub mod Public
