-- Laws that the proofs of several functions cite.
pub mod Numbers
pub mod Promises
pub mod Known
