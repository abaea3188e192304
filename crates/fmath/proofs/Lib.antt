pub mod Lengths
pub mod Judged
pub mod Clamping
pub mod Promises
