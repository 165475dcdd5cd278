pub mod Layout
pub mod Values
pub mod Reading
pub mod Laws
