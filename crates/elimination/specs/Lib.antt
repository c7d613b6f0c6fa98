pub mod Requires
pub mod Divided
pub mod Room
pub mod Views
pub mod Refusals
pub mod Heard
pub mod Coincide
