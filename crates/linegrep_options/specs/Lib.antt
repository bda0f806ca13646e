pub mod CommandLines
pub mod OptionUses
pub mod ParsedWords
pub mod Rows
