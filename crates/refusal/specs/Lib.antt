pub mod Order
pub mod Exactly
pub mod Chain
pub mod Worked
