mod Marking
mod Views
mod Examples
