pub mod Alike
pub mod Put
pub mod Ticked
