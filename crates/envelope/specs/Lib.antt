pub mod Derive
pub mod Steps
pub mod Slots
pub mod Refusals
pub mod AtBox
pub mod Promises
pub mod Worked
