pub mod Tells
pub mod Rows
pub mod Meeting
pub mod Found
pub mod Masks
pub mod Ready
pub mod Ticks
pub mod Promises
