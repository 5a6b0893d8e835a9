pub mod Bits
pub mod Turns
pub mod Stages
pub mod Closed
pub mod Laws
pub mod Mappings
pub mod Refusals
pub mod Models
