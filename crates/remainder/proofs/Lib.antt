mod Run
mod Rule
mod Words
mod Four
mod Numbers
pub mod Ends
