mod Cutting
mod Placing
mod LastCall
