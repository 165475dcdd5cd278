pub mod Terms
pub mod Public
pub mod Laws
