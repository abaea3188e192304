pub mod Told
pub mod Along
pub mod Room
