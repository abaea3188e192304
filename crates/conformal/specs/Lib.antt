pub mod Feat
pub mod Rule
pub mod Refusals
pub mod Answer
pub mod Of
pub mod Promises
pub mod Worked
