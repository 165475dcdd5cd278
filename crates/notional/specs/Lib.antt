pub mod Amount
pub mod Rounding
pub mod Masking
pub mod Examples
pub mod Laws
