pub mod Turns
pub mod Picked
pub mod Bins
pub mod Stall
pub mod Promises
