pub mod AlikeTest
pub mod Computing
pub mod Premises
pub mod Tapes
pub mod Differing
