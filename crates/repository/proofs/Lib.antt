pub mod AnswerLaws
pub mod StatusLaws
pub mod DecisionLaws
pub mod AdmissionLaws
pub mod AnswerSizes
pub mod Demanded
