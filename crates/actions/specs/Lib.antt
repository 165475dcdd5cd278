pub mod Statuses
pub mod Table
pub mod Actions
pub mod Matrix
