pub mod Bits
pub mod Choice
