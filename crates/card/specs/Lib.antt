pub mod Record
pub mod Desk
pub mod Text
pub mod Block
pub mod Worked
pub mod Promises
