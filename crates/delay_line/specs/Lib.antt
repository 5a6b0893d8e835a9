pub mod Line
pub mod Cells
pub mod Refusals
pub mod Laws
pub mod InSeries
pub mod Landed
pub mod Fresh
pub mod Halves
