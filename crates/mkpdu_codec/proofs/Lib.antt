pub mod TwoBits
pub mod PeerRoom
pub mod Taking
pub mod Loops
pub mod Header
pub mod SetOctets
pub mod Places
pub mod Order
pub mod Again
pub mod Walking
pub mod FrameAgain
pub mod Gathering
pub mod Sound
pub mod WhatIsRead
pub mod Unique
pub mod WrittenSpelled
mod Examples
pub mod Public
