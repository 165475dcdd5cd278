pub mod Price
pub mod Examples
pub mod Laws
