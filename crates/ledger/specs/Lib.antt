pub mod Line
pub mod Layout
pub mod Totals
pub mod Header
pub mod Rows
pub mod RowList
pub mod Document
