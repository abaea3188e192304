pub mod Answer
pub mod Asked
pub mod Environment
