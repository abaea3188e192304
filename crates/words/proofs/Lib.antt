-- Laws that the proofs of several functions cite, and `card`'s.
pub mod Beside
