pub mod Prefix
pub mod UnitRows
pub mod WorkKept
pub mod Bridge
pub mod LinesStand
pub mod Answers
pub mod Demand3
