pub mod LaneLemmas
pub mod LawLemmas
pub mod LineStepLemmas
pub mod MaskLemmas
pub mod LinePositionLemmas
pub mod ReplaceLemmas
pub mod LineRangeLemmas
pub mod PositionLemmas
