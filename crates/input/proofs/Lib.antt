-- Laws that the proofs of several functions cite, and the theorems of one answer.
pub mod Answers
pub mod OneAnswer
pub mod Known
