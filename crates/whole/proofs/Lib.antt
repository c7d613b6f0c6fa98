pub mod Division
pub mod Signed
pub mod Mask
pub mod Exponent
