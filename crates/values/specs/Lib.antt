pub mod Limits
pub mod Run
pub mod Code
pub mod Lei
