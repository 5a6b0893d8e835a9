mod Values
mod Register
pub mod Encoding
mod Lists
mod Sums
mod Turns
mod Elimination
mod Restoring
mod Differing
pub mod Verdict
mod Zeros
