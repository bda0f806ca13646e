pub mod NumberLemmas
pub mod ReadingLemmas
pub mod RowLemmas
pub mod UseLemmas
