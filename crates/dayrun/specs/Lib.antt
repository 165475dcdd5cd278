pub mod Day
pub mod Blocks
pub mod Progress
