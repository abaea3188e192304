pub mod Joint
pub mod Entry
