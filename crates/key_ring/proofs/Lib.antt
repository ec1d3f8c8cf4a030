pub mod Lines
pub mod KeyFronts
pub mod Steps
pub mod DerivedKeys
pub mod KeyedRings
mod Examples
