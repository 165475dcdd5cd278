pub mod LayoutLaws
pub mod SameLaws
pub mod ReadingLaws
