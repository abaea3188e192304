pub mod Rule
pub mod Refusals
pub mod Of
pub mod Worked
pub mod Promises
