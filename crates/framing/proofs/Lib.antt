pub mod Sequence
pub mod Masking
pub mod Coding
pub mod Nearest
pub mod Sent
pub mod Mending
