pub mod Syndromes
pub mod Encoding
pub mod States
pub mod Refusals
pub mod Correction
