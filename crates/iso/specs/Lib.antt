pub mod Lists
pub mod Codes
