pub mod Placed
pub mod Within
pub mod Models
pub mod Both
