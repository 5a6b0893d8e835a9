pub mod Lines
pub mod Sends
pub mod Symbols
pub mod Receives
pub mod Counting
pub mod Groups
pub mod Delivers
pub mod Examples
