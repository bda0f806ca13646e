pub mod DigitLemmas
pub mod OutputLemmas
pub mod PendingLemmas
