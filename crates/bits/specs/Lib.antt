pub mod Choice
pub mod Bits
