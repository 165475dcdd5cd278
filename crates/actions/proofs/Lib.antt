pub mod TableLaws
pub mod MatrixLaws
pub mod KindLaws
