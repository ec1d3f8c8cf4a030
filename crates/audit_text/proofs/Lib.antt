pub mod Answering
pub mod Faults
pub mod InForm
pub mod Lines
pub mod FedLines
pub mod KeyText
pub mod ShortLines
pub mod Cutting
pub mod Parted
pub mod Returned
pub mod Public
mod Examples
