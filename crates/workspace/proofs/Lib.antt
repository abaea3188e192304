pub mod Shapes
pub mod Gaps
pub mod Over
pub mod Inside
pub mod Masks
pub mod Slacks
pub mod Promises
