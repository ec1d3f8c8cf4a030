pub mod Words
pub mod Rendering
pub mod Cut
pub mod Naming
pub mod Events
pub mod inside
