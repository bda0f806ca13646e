pub mod CallTexts
pub mod Counts
pub mod Matchers
pub mod Supplies
