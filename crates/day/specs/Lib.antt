pub mod Frame
pub mod Report
