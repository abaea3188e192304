pub mod Rule
pub mod Answer
pub mod Towards
pub mod NoMode
pub mod Of
pub mod Promises
pub mod Halves
pub mod Worked
