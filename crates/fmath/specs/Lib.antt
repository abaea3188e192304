pub mod Clamp
pub mod Norm
pub mod Answer
pub mod Promises
pub mod Worked
