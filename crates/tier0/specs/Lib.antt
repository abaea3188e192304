pub mod Rule
pub mod Chunk
pub mod Refusals
pub mod Of
pub mod Promises
pub mod Calm
pub mod Worked
