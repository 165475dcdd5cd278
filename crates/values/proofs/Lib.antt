pub mod RunLaws
pub mod LeiLaws
