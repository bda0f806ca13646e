pub mod StrippedLineLemmas
pub mod LiteralLemmas
pub mod OccurrenceLemmas
mod ResemblanceLemmas
mod PartLemmas
pub mod CandidateLemmas
pub mod LineLemmas
pub mod LineStartLemmas
pub mod LineLengthLemmas
pub mod LineMatchLemmas
pub mod FromLemmas
