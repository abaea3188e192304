pub mod Judged
pub mod Rows
pub mod OneAnswer
