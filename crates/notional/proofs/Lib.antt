pub mod AmountLaws
pub mod BandLaws
pub mod RoundingLaws
pub mod MaskingLaws
