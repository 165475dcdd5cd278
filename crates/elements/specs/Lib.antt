pub mod Codes
pub mod Table
pub mod Messages
pub mod Forms
pub mod Conditions
