mod Drawing
mod Placing
mod Users
mod Refusing
mod Stations
mod Finding
mod Acting
mod Telling
mod Coming
mod Showing
mod OnWay
pub mod Public
