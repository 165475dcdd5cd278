pub mod Answers
pub mod Refusals
pub mod Decision
pub mod Demands
