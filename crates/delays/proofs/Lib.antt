pub mod Agreeing
pub mod Alone
pub mod Returned
