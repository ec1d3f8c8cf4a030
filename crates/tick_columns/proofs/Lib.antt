mod Cut
mod Kept
mod Examples
