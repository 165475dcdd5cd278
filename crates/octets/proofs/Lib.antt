pub mod ChoiceLaws
pub mod SearchLaws
pub mod PartLaws
pub mod SameLaws
pub mod NumberLaws
pub mod WriteLaws
pub mod FieldLaws
pub mod FieldRun
