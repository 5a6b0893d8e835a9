pub mod Mask
pub mod Group
pub mod Refusals
pub mod Words
pub mod Nearest
pub mod Mending
pub mod Laws
