pub mod Outputs
pub mod PendingTexts
pub mod Writing
