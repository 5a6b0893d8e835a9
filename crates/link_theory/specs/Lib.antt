pub mod Refusals
pub mod Sender
pub mod Receiver
pub mod Runs
pub mod Symbols
pub mod Delivery
pub mod Worked
