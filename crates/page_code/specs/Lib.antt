pub mod LongMatches
