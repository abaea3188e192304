pub mod Root
pub mod Rule
pub mod Round
pub mod Of
pub mod Worked
pub mod Promises
