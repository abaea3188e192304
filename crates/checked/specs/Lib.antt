pub mod Each
pub mod Finite
pub mod Row
pub mod Constants
pub mod Least
pub mod Checked
pub mod Of
