-- What a reader reads: the words of the three forms, what a line says, and where the lines end.
pub mod Forms
pub mod Reading
pub mod InForm
pub mod Parting
