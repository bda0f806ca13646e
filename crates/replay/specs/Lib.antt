pub mod EmptyMatches
