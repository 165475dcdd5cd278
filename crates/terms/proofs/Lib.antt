pub mod TermLaws
pub mod PublicLaws
