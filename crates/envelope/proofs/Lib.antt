pub mod Accepted
pub mod Walls
pub mod Promises
