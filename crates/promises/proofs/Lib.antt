pub mod OneAnswer
pub mod Exported
pub mod Counts
pub mod Exactly
pub mod Stall
pub mod Gripper
pub mod Beliefs
pub mod Refused
