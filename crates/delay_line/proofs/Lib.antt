pub mod Ringed
pub mod Carrying
pub mod Branches
pub mod OneToOne
pub mod Runs
pub mod FreshSeries
