pub mod Beliefs
pub mod Refused
pub mod Counts
pub mod Stall
pub mod Gripper
