pub mod CommandLine
pub mod Messages
pub mod Numerals
pub mod OptionSettings
pub mod ProgramRuns
pub mod PrintedTexts
