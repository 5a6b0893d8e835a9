pub mod Field
pub mod Galois
pub mod Algebra
pub mod Words
pub mod Code
pub mod Register
pub mod Decoder
pub mod Misaligned
