pub mod Places
pub mod Chunk
pub mod Trail
pub mod State
pub mod Scores
pub mod Config
