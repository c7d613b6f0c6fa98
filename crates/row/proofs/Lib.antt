pub mod Loops
pub mod Judging
pub mod RowLoops
pub mod Changed
pub mod Sums
