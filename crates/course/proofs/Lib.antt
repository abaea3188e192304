pub mod Leading
pub mod Along
pub mod Room
pub mod Entries
