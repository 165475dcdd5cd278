pub mod DecimalLaws
pub mod FrameLaws
pub mod ReportLaws
