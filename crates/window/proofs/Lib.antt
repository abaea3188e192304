pub mod Shift
pub mod LastPushes
pub mod TrailJudged
pub mod TrailTold
pub mod Ranges
pub mod LastSamples
pub mod OneAnswer
