pub mod DayLaws
pub mod Examples
pub mod ProgressLaws
