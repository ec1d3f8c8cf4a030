mod Views
mod Noting
mod Whole
mod Marking
mod Examples
