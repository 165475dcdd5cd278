pub mod Encoding
pub mod Messages
pub mod Histories
pub mod Lines
pub mod Differences
