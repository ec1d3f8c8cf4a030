pub mod Forms
pub mod Reading
pub mod InForm
pub mod Live
