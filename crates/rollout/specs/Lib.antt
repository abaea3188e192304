pub mod Plant
pub mod Rule
pub mod Leg
pub mod Of
pub mod Halves
pub mod Worked
