pub mod Groups
pub mod MatchedParts
pub mod PartsErrors
pub mod ReplacedBytes
pub mod Templates
