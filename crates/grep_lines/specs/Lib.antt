pub mod Blocks
pub mod FirstLine
pub mod LastStarts
pub mod LineLaws
pub mod Positions
pub mod Steps
