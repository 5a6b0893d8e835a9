pub mod Hex
pub mod Commands
pub mod Replies
pub mod Accounts
