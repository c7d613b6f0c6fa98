pub mod Tables
pub mod Rounds
pub mod Courses
pub mod Refusals
pub mod Turns
pub mod Unused
