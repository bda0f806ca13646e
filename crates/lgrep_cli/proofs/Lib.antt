pub mod CommandLemmas
pub mod CommandRows
pub mod CountTextLemmas
pub mod NumeralLemmas
pub mod PrinterLemmas
pub mod RunLemmas
pub mod SearchLemmas
