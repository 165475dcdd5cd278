pub mod FindingLaws
pub mod JudgeLaws
pub mod VerdictLaws
pub mod ValuesDecide
