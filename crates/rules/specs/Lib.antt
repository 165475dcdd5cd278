pub mod Verdicts
pub mod Findings
pub mod Rules
